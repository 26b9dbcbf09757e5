-- The definitions, computed on small inputs. Each equation holds by computation alone.
mod Rules
mod Stacks
mod Refusals
mod Packets
mod Unwinding
mod Descent
mod Limits
