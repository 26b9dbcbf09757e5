-- Questions in words: whose closure was asked, and what it was shown.
use Rattle.std.specs.Prelude.{ℕ, ◌==◌, ◌&&◌, not, List, [], ◌++◌, codes, Option, None, Some, if◌then◌else◌}
use Rattle.std.specs.Fmt.{decimal}
use Rattle.irp_types.specs.Questions.{shown_of}
use Rattle.irp_types.specs.declared.asked.Asked.{Asked}
use Rattle.irp_types.specs.declared.asked.Asked.TheVariants.{Dispatch, Completion, Cancel}
use Rattle.irp_types.specs.declared.names.DeviceId.{DeviceId}
use Rattle.irp_types.specs.declared.shown.Shown.{Shown}
use Rattle.irp_types.specs.declared.status.Status.{Status}
use Rattle.irp_names.specs.Closures.{closure_text}
use Rattle.irp_names.specs.Majors.{major_text}
use Rattle.irp_names.specs.Small.{hex_text, told_if}
use Rattle.irp_names.specs.Statuses.{result_text}

-- a mark for the way: down to a dispatch, up to a completion routine, or to a cancel routine
abbrev pub way_of : Asked → List ℕ
way_of (Dispatch id shown plan) = codes "v"
way_of (Completion id shown answer) = codes "^"
way_of (Cancel id shown answer) = codes "!"

-- whose closure is asked
abbrev pub asker_text : Option DeviceId → List ℕ
asker_text None = codes "originator"
asker_text (Some device) = codes "D" ++ decimal device.0

-- a status and information, where they aren't zero
abbrev pub result_told : Status → ℕ → List ℕ
result_told status information =
    if (status.0 == 0) && (information == 0) then [] else codes ", " ++ result_text status information

-- what a dispatch is shown, a completion routine, and any closure
abbrev pub to_dispatch : Shown → List ℕ
to_dispatch shown =
    codes ": " ++ (major_text shown.major ++ (codes ", location " ++ (decimal shown.location
    ++ (codes ", word " ++ (hex_text shown.word ++ (result_told shown.status shown.information
    ++ (told_if shown.cancel (codes ", cancelled") ++ told_if (not shown.has_lower) (codes ", nothing below"))))))))

abbrev pub to_completion : Shown → List ℕ
to_completion shown =
    codes " (location " ++ (decimal shown.location ++ (codes ", context " ++ (hex_text shown.context
    ++ (codes "): " ++ (result_text shown.status shown.information
    ++ (told_if shown.pending_returned (codes ", PendingReturned") ++ told_if shown.cancel (codes ", cancelled")))))))

abbrev pub shown_text : Asked → List ℕ
shown_text (Dispatch id shown plan) = to_dispatch shown
shown_text (Completion id shown answer) = to_completion shown
shown_text (Cancel id shown answer) =
    codes ": location " ++ (decimal shown.location ++ (codes ", " ++ result_text shown.status shown.information))

-- a question; and behind the mark for its way
abbrev pub asked_text : Asked → List ℕ
asked_text question =
    asker_text (shown_of question).device ++ (codes " " ++ (closure_text question ++ shown_text question))

abbrev pub question_text : Asked → List ℕ
question_text question = way_of question ++ (codes " " ++ asked_text question)
