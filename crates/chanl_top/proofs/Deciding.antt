-- The cases of the verdict, and what reading says of the bytes that were left.
use Rattle.std.proofs.Common.{◌≡◌, ℕ, true, ◌+◌, ◌<◌, ◌≤◌, List, ◌++◌, length, codes, Option, Some, None, sym, ap, ◌∙◌, subst, arith, inl, inr, append-nil, length-append}
use Rattle.std.specs.Io.KnownBytes.{Consumes, IsAtEnd, Appends}
use Rattle.core_language.specs.Programs.{Program}
use Rattle.core_programs.specs.declared.nodes.Parts.{Parts}
use Rattle.core_programs.specs.Bodies.{program_of}
use Rattle.core_programs.specs.Form.{HasForm}
use Rattle.core_trees.specs.Core.{is_core}
use Rattle.core_numbering.specs.Numbering.{IsNumbering}
use Rattle.core_numbering.specs.Pure.{program_in}
use Rattle.core_numbering.proofs.Said.{says_the_tree}
use Rattle.core_language.specs.Rounds.{Entry, run_of}
use Rattle.core_language.specs.Endings.{Ending, ending_of}
use Rattle.core_language.specs.Endings as ending
use Rattle.chan_base.specs.Stream.{Takes, AppendsFront}
use Rattle.chan_syntax.specs.declared.surface_tree.Surface.{Surface}
use Rattle.chanl_words.specs.declared.Command.{Command}
use Rattle.chanl_words.specs.declared.Command.TheVariants as command
use Rattle.chanl_words.specs.Words.{Admits}
use Rattle.chanl_words.proofs.OneCommand.{few_rounds}
use Rattle.chanl_lines.specs.Lines.{run_text, usage}
use Rattle.chanl_top.specs.declared.status.Status.{Status}
use Rattle.chanl_top.specs.declared.status.Status.TheVariants as status
use Rattle.chanl_top.specs.declared.verdicts.Verdict.{Verdict}
use Rattle.chanl_top.specs.Verdict.{refusal, longest, ending_status, replayed, IsFmtVerdict, IsTreeVerdict, IsReplayVerdict, IsTextVerdict, IsCommandVerdict, IsVerdict}
use Rattle.chanl_top.specs.Decided.{AreFew, IsOfText, IsSettled, Decides, Finishes, TellsUsage}

-- all was read, so the bytes are those that were left
all_read : (old new : Option (List ℕ)) (bytes all : List ℕ) → Consumes old new bytes → IsAtEnd new → old ≡ Some all → bytes ≡ all
all_read None new bytes all took over is = cc
all_read (Some xs) None bytes all took over is = absurd took
all_read (Some xs) (Some ys) bytes all took over is =
    let same : xs ≡ all = cc in
    sym (append-nil bytes) ∙ ap (λ r. bytes ++ r) (sym over) ∙ sym took ∙ same

-- more was taken than the limit, so that more was left
many_read : (old new : Option (List ℕ)) (limit : ℕ) (all : List ℕ) → Takes old new (λ n. n ≡ limit + 1) → old ≡ Some all → limit < length all
many_read None new limit all (bytes, took, long) is = cc
many_read (Some xs) None limit all (bytes, took, long) is = absurd took
many_read (Some xs) (Some ys) limit all (bytes, took, long) is =
    let same : xs ≡ all = cc in
    let count : length all ≡ length bytes + length ys = ap length (sym same ∙ took) ∙ length-append bytes ys in
    omega arith

-- ---- the answers of commands on a text

ending_is_of_text : (e : Ending) → IsOfText (ending_status e)
ending_is_of_text ending.Finished = tt
ending_is_of_text ending.Rounds = tt
ending_is_of_text (ending.OutOfRange p) = tt
ending_is_of_text (ending.TooDeep p) = tt
ending_is_of_text (ending.Stuck p why) = tt
ending_is_of_text (ending.Deadlocked ps) = tt
ending_is_of_text (ending.Leaked cs) = tt

fmt_is_of_text : (text : List ℕ) (v : Verdict) → IsFmtVerdict text v → IsOfText v.status
fmt_is_of_text text v (inl (tree, reads, is)) = subst (λ (u : Verdict). IsOfText u.status) (sym is) tt
fmt_is_of_text text v (inr (line, unread, is)) = subst (λ (u : Verdict). IsOfText u.status) (sym is) tt

tree_is_of_text : (tree : Surface) (rounds : ℕ) (v : Verdict) → IsTreeVerdict tree rounds v → IsOfText v.status
tree_is_of_text tree rounds v (inl (core, (parts, lowered, inl (form, is)))) =
    subst (λ (u : Verdict). IsOfText u.status) (sym is) (ending_is_of_text (ending_of (program_in tree) (run_of (program_in tree) rounds).config))
tree_is_of_text tree rounds v (inl (core, (parts, lowered, inr (ill, fault, is)))) = subst (λ (u : Verdict). IsOfText u.status) (sym is) tt
tree_is_of_text tree rounds v (inr (session, is)) = subst (λ (u : Verdict). IsOfText u.status) (sym is) tt

replay_is_of_text : (rounds : ℕ) (text : List ℕ) (v : Verdict) → IsReplayVerdict rounds text v → IsOfText v.status
replay_is_of_text rounds text v (inl (tree, reads, is)) = tree_is_of_text tree rounds v is
replay_is_of_text rounds text v (inr (line, unread, is)) = subst (λ (u : Verdict). IsOfText u.status) (sym is) tt

answer_is_of_text : (command : Command) (text : List ℕ) (v : Verdict) → IsTextVerdict command text v → IsOfText v.status
answer_is_of_text command.Fmt text v is = fmt_is_of_text text v is
answer_is_of_text (command.Replay rounds) text v is = replay_is_of_text rounds text v is

settles : (s : Status) → IsOfText s → IsSettled s
settles status.Done is = tt
settles status.TextRefused is = tt
settles status.OutlineRefused is = tt
settles status.Stopped is = tt
settles status.BadEnding is = tt
settles status.Usage is = tt
settles status.ReadFault is = is
settles status.WriteFault is = is
settles status.Memory is = is

-- words that are admitted are answered by no usage line
pub no_usage : (command : Command) (text : List ℕ) (v : Verdict) → IsTextVerdict command text v → v.status ≡ status.Usage → ⊥
no_usage command text v is usage = subst IsOfText usage (answer_is_of_text command text v is)

-- ---- what was decided

-- what a run writes, and the status with which it ends
pub run_verdict : (program : Program) (rounds : ℕ) (entries : List Entry) (e : Ending) (s : Status) (output : List ℕ) → entries ≡ (run_of program rounds).entries
    → e ≡ ending_of program (run_of program rounds).config → s ≡ ending_status e → output ≡ run_text entries e
    → record { status = s; output = output } ≡ replayed program rounds
run_verdict program rounds entries e s output are ends is writes =
    let settled : s ≡ (replayed program rounds).status = is ∙ ap ending_status ends in
    let written : output ≡ (replayed program rounds).output = writes ∙ ap (λ xs. run_text xs e) are ∙ ap (run_text (run_of program rounds).entries) ends in
    λ i. record { status = settled i; output = written i }

-- the run of the parts to which a tree was lowered
pub tree_run : (tree : Surface) (parts : Parts) (rounds : ℕ) (v : Verdict) → is_core tree ≡ true → IsNumbering tree parts → HasForm parts → v ≡ replayed (program_of parts) rounds
    → IsTreeVerdict tree rounds v
tree_run tree parts rounds v core lowered form is = inl (core, (parts, lowered, inl (form, is ∙ ap (λ p. replayed p rounds) (says_the_tree tree parts lowered))))

pub few : (words : List (List ℕ)) (command : Command) → Admits words command → AreFew command
few words command.Fmt admitted = tt
few words (command.Replay rounds) admitted = few_rounds words rounds admitted

pub decides_text : (command : Command) (left new : Option (List ℕ)) (before now : ℕ) (v : Verdict) (text bytes : List ℕ) → text ≡ bytes → IsTextVerdict command text v
    → Consumes left new bytes → IsAtEnd new → length bytes ≤ longest → Decides (IsCommandVerdict command) left before now v
decides_text command left new before now v text bytes same is took over few =
    inr (
      settles v.status (answer_is_of_text command text v is),
      λ all told.
          let whole : bytes ≡ all = all_read left new bytes all took over told in
          inl (subst (λ (xs : List ℕ). length xs ≤ longest) whole few, subst (λ t. IsTextVerdict command t v) (same ∙ whole) is),
    )

pub decides_long : (command : Command) (left new : Option (List ℕ)) (before now : ℕ) (v : Verdict) → v ≡ refusal (codes "too long")
    → Takes left new (λ n. n ≡ longest + 1) → Decides (IsCommandVerdict command) left before now v
decides_long command left new before now v is took =
    inr (subst (λ (u : Verdict). IsSettled u.status) (sym is) tt, λ all told. inr (many_read left new longest all took told, is))

pub decides_words : (command : Command) (words : List (List ℕ)) (left : Option (List ℕ)) (before now : ℕ) (v : Verdict) → Admits words command
    → Decides (IsCommandVerdict command) left before now v → Decides (IsVerdict words) left before now v
decides_words command words left before now v admitted (inl fault) = inl fault
decides_words command words left before now v admitted (inr (ok, answers)) = inr (ok, λ all told. inl (command, admitted, answers all told))

-- ---- what was written

-- a settled status comes with the whole of its answer
pub finished : (Answers : List ℕ → Verdict → Type 0) (left holds after : Option (List ℕ)) (before now risen fallen : ℕ) (v : Verdict) (text : List ℕ) (result : Status)
    → Decides Answers left before now v → text ≡ v.output → Finishes holds after risen fallen v.status text result
    → IsSettled result → (bytes : List ℕ) → left ≡ Some bytes
    → (output : List ℕ) × Answers bytes (record { status = result; output = output }) × Appends holds after output
finished Answers left holds after before now risen fallen v text result decides written (inr (is, rose, front)) settled bytes told = absurd (subst IsSettled is settled)
finished Answers left holds after before now risen fallen v text result (inl (is, line, rose)) written (inl (same, all)) settled bytes told = absurd (subst IsSettled (same ∙ is) settled)
finished Answers left holds after before now risen fallen v text result (inr (ok, answers)) written (inl (same, all)) settled bytes told =
    (v.output, subst (λ s. Answers bytes (record { status = s; output = v.output })) (sym same) (answers bytes told), subst (Appends holds after) written all)

-- the usage line comes whole, or a front of it
pub tells_usage : (holds after : Option (List ℕ)) (risen fallen : ℕ) (v : Verdict) (text : List ℕ) (result : Status)
    → v ≡ record { status = status.Usage; output = usage } → text ≡ v.output → Finishes holds after risen fallen v.status text result → TellsUsage holds after result
tells_usage holds after risen fallen v text result is written (inl (same, all)) =
    subst (TellsUsage holds after) (sym (same ∙ ap (λ (u : Verdict). u.status) is)) (subst (Appends holds after) (written ∙ ap (λ (u : Verdict). u.output) is) all)
tells_usage holds after risen fallen v text result is written (inr (same, rose, front)) =
    subst (TellsUsage holds after) (sym same) (subst (AppendsFront holds after) (written ∙ ap (λ (u : Verdict). u.output) is) front)

pub wrote_no_usage : (holds after : Option (List ℕ)) (risen fallen : ℕ) (s result : Status) (text : List ℕ) → (s ≡ status.Usage → ⊥)
    → Finishes holds after risen fallen s text result → result ≡ status.Usage → ⊥
wrote_no_usage holds after risen fallen s result text other (inl (same, all)) is = other (sym same ∙ is)
wrote_no_usage holds after risen fallen s result text other (inr (same, rose, front)) is = cc
