-- What comes of the words of a command line.
use Rattle.std.proofs.Common.{◌≡◌, ◌⊎◌, ◌∙◌, inl, inr, ℕ, true, List, [], Option, Some, None, Result, Ok, Err, refl, sym, subst, ap}
use Rattle.std.specs.Str.Parse.{ParsesUnsigned}
use Rattle.clap.specs.Kinds.{HasKind}
use Rattle.clap.specs.Matches.{ReadsOne, found_of, one_text}
use Rattle.clap.specs.Simple.{App, HasMatchesOf}
use Rattle.clap.specs.Values.{kind_of}
use Rattle.clap.specs.Walk.{Row, rows_of}
use Rattle.clap.specs.Words.{fault_of, is_simple, is_simple_and_free, matches_of}
use Rattle.clap.specs.declared.error.Error.{Error}
use Rattle.clap.specs.declared.error.kind.ErrorKind.TheVariants.{OutOfMemory}
use Rattle.clap.specs.declared.parser.matches.ArgMatches.{ArgMatches}
use Rattle.clap.specs.declared.parser.matches.Found.{Found}
use Rattle.clap.proofs.OnLiterals.{clap_on_literals}
use Rattle.clap.proofs.WalkLemmas.{one_text-rows}
use Rattle.irp_command_line.proofs.Matching as found
use Rattle.irp_orders.specs.CommandLine.{AsksForOrMemory, FaultedBy, IsNumber, Makes, SaysNumber, command_line}
use Rattle.irp_orders.specs.declared.asked.Asked.{Asked}
use Rattle.irp_orders.specs.declared.ending.Ending.{Ending}
use Rattle.irp_orders.specs.declared.ending.Ending.TheVariants.{NoMemory}

-- ---- a word's number

number_read : {E : Type 0} (gives : List ℕ → Result ℕ E → Type 0)
    → ((text : List ℕ) (result : Result ℕ E) → gives text result → ParsesUnsigned 64 10 text result)
    → (text : List ℕ) (number : Option ℕ) → ReadsOne gives text number → IsNumber (Some text) number
number_read gives weaker text None reads = λ number writes. weaker text (Err reads.0) reads.1 (writes.0, writes.1)
number_read gives weaker text (Some number) reads =
    let writes = weaker text (Ok number) reads in (writes.0.0, writes.0.1, writes.1)

pub number_said : {E : Type 0} (gives : List ℕ → Result ℕ E → Type 0)
    → ((text : List ℕ) (result : Result ℕ E) → gives text result → ParsesUnsigned 64 10 text result)
    → (found : Found) (name : List ℕ) (number : Option ℕ) → (one_text found name ≡ None → number ≡ None)
    → ((text : List ℕ) → one_text found name ≡ Some text → ReadsOne gives text number) → SaysNumber (rows_of found) name number
number_said gives weaker found name number none reads =
    subst (λ (text : Option (List ℕ)). IsNumber text number) (one_text-rows found name) (by (one_text found name) refl)
  where
    by : (text : Option (List ℕ)) → one_text found name ≡ text → IsNumber text number
    by None is = subst (λ (number : Option ℕ). IsNumber None number) (sym (none is)) tt
    by (Some text) is = number_read gives weaker text number (reads text is)

-- ---- what clap finds

command_line_is_simple : is_simple command_line ≡ true
unfolding clap_on_literals
command_line_is_simple = refl

command_line_is_free : is_simple_and_free command_line ≡ true
unfolding clap_on_literals
command_line_is_free = refl

-- clap's matches of words are those of the command line
pub matched : (app : App) (words : List (List ℕ)) (matches : ArgMatches) (asked : Result Asked Ending) → app ≡ command_line
    → HasMatchesOf app words matches → (is_simple_and_free app ≡ true → fault_of app words ≡ [])
    → Makes (rows_of (found_of matches)) asked
    → AsksForOrMemory (fault_of command_line words) (matches_of command_line words) asked
matched app words matches asked app_is has faultless makes =
    inr
    (found.matched FaultedBy Makes command_line app words (matches_of command_line words) asked command_line_is_free app_is faultless
    (subst (λ (rows : List Row). Makes rows asked)
    (found.rows_are command_line app words matches command_line_is_simple app_is has) makes))

-- and so is why it refused them
pub faulted : (app : App) (words : List (List ℕ)) (error : Error) (asked : Result Asked Ending) → app ≡ command_line
    → (is_simple_and_free app ≡ true → HasKind (fault_of app words) error)
    → (kind_of error ≡ OutOfMemory → asked ≡ Err NoMemory) → (asked ≡ Err NoMemory) ⊎ FaultedBy (kind_of error) asked
    → AsksForOrMemory (fault_of command_line words) (matches_of command_line words) asked
faulted app words error asked app_is kinds memory by =
    found.faulted FaultedBy Makes command_line app words (matches_of command_line words) asked (Err NoMemory) error
    command_line_is_free app_is kinds memory by
