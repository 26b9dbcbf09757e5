-- The names of facts, the signs of comparisons, and which values each fact can have.
use Rattle.std.specs.Prelude.{ℕ, Bool, true, false, if◌then◌else◌, List, Option, Some, None, codes}
use Rattle.std.proofs.Common.{bytes_eq}
use Rattle.irp_condition.specs.declared.condition.Comparison.{Comparison}
use Rattle.irp_condition.specs.declared.condition.Comparison.TheVariants.{Equal, Other, Below, AtMost, Above, AtLeast}
use Rattle.irp_condition.specs.declared.naming.Joint.{Joint}
use Rattle.irp_condition.specs.declared.naming.Joint.TheVariants.{And, Or}
use Rattle.irp_condition.specs.declared.naming.Name.{Name}
use Rattle.irp_condition.specs.declared.naming.Name.TheVariants.{Reply, Made, Owner, Status, Information, Current, Live, Cancel, Deleted, Held, Removing}
use Rattle.irp_condition.specs.declared.naming.Sort.{Sort}
use Rattle.irp_condition.specs.declared.naming.Sort.TheVariants as sort

-- the word of a joint
abbrev pub word_of : Joint → List ℕ
word_of And = codes "and"
word_of Or = codes "or"

-- the name of a fact that a word is
abbrev pub name_of : List ℕ → Option Name
name_of word =
    if bytes_eq word (codes "reply") then Some Reply else
    (if bytes_eq word (codes "made") then Some Made else
    (if bytes_eq word (codes "owner") then Some Owner else
    (if bytes_eq word (codes "status") then Some Status else
    (if bytes_eq word (codes "information") then Some Information else
    (if bytes_eq word (codes "current") then Some Current else
    (if bytes_eq word (codes "live") then Some Live else
    (if bytes_eq word (codes "cancel") then Some Cancel else
    (if bytes_eq word (codes "deleted") then Some Deleted else
    (if bytes_eq word (codes "held") then Some Held else
    (if bytes_eq word (codes "removing") then Some Removing else None))))))))))

-- the comparison that a sign is
abbrev pub comparison_of : List ℕ → Option Comparison
comparison_of sign =
    if bytes_eq sign (codes "==") then Some Equal else
    (if bytes_eq sign (codes "!=") then Some Other else
    (if bytes_eq sign (codes "<") then Some Below else
    (if bytes_eq sign (codes "<=") then Some AtMost else
    (if bytes_eq sign (codes ">") then Some Above else
    (if bytes_eq sign (codes ">=") then Some AtLeast else None)))))

-- which values a fact of this name can have
abbrev pub sort_of : Name → Sort
sort_of Reply = sort.Reply
sort_of Made = sort.Truth
sort_of Owner = sort.Owner
sort_of Status = sort.Number
sort_of Information = sort.Number
sort_of Current = sort.Number
sort_of Live = sort.Truth
sort_of Cancel = sort.Truth
sort_of Deleted = sort.Truth
sort_of Held = sort.Number
sort_of Removing = sort.Truth

-- only what steps were answered tells a fact of this name
abbrev pub needs_replies : Name → Bool
needs_replies Reply = true
needs_replies Made = true
needs_replies Owner = false
needs_replies Status = false
needs_replies Information = false
needs_replies Current = false
needs_replies Live = false
needs_replies Cancel = false
needs_replies Deleted = true
needs_replies Held = false
needs_replies Removing = false
