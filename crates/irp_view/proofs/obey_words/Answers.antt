-- What comes of the words is done once a use of a packet that stands in one word is two.
use Rattle.std.proofs.Common.{◌≡◌, ℕ, List, map, string_bytes, Option, Some, None, Result, Ok, Err, inr, refl, subst, sym}
use Rattle.irp_program.specs.declared.words.Unasked.{Unasked}
use Rattle.irp_streams.specs.Writing.{IsQuiet}
use Rattle.irp_view.specs.Program.{ObeysAsked}
use Rattle.irp_view.specs.Streams.{Output, output_of}
use Rattle.irp_view.specs.declared.orders.Asked.{Asked}
use Rattle.irp_view.proofs.obey_words.Goals as goal

-- where nothing was written, nothing went out
quiet : (gone : Option (List ℕ)) (failures : ℕ) → IsQuiet gone gone failures failures
quiet None failures = (tt, refl)
quiet (Some bytes) failures = (refl, refl)

pub returns-in-Ok-asked : goal.returns-in-Ok-asked
returns-in-Ok-asked g c =
    let before : Output = output_of (g.O.Out.gone c.args.output.now) (g.O.Out.failures c.args.output.now) in
    let after : Output = output_of (g.O.Out.gone c.run_on.new.output) (g.O.Out.failures c.run_on.new.output) in
    inr (record {
      parted = map string_bytes c.in-Ok.parted.items;
      are_put = c.in-Ok.ensures;
      asked = c.asked.result;
      asks = rw c.as_slice.ensures.value at c.asked.ensures;
      obeys =
          subst (λ (asked : Result Asked Unasked). ObeysAsked asked before after c.run_on.result) (sym c.in-Ok-asked.is)
          c.run_on.ensures;
    })

pub returns : goal.returns
returns g c =
    let before : Output = output_of (g.O.Out.gone c.args.output.now) (g.O.Out.failures c.args.output.now) in
    inr (record {
      parted = map string_bytes c.in-Ok.parted.items;
      are_put = c.in-Ok.ensures;
      asked = c.asked.result;
      asks = rw c.as_slice.ensures.value at c.asked.ensures;
      obeys =
          subst (λ (asked : Result Asked Unasked). ObeysAsked asked before before c.from.result) (sym c.in-Err.is)
          (c.from.ensures, quiet (g.O.Out.gone c.args.output.now) (g.O.Out.failures c.args.output.now));
    })
