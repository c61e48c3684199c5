-- The words and the bytes have one verdict.
use Rattle.std.proofs.Common.{◌≡◌, ℕ, ◌+◌, List, Option, Some, None, true≢false, sym, ap, ◌∙◌, subst, arith, ◌⊎◌, inl, inr}
use Rattle.std.proofs.lemmas.Option.{none-some, same_Some}
use Rattle.chan_syntax.specs.declared.surface_tree.Surface.{Surface}
use Rattle.text_tokens.specs.Text.{Token}
use Rattle.text_tokens.proofs.Cuts.{one_list, one_first_fault, never_both}
use Rattle.grammar_laws.proofs.Faults.{one_unexpected, one_too_deep}
use Rattle.grammar_laws.proofs.Faults.{never_both as never_both_faults}
use Rattle.surface_grammar.specs.Declarations.{program}
use Rattle.surface_grammar.specs.Language.{surface, max_levels, Derives}
use Rattle.chan_parser.specs.Parse as parse
use Rattle.chan_parser.proofs.Outcomes.{no_fault}
use Rattle.grammar_laws.proofs.Knot.{one_tree}
use Rattle.surface_grammar.proofs.Tests.{names_pass, program_passes, samples}
use Rattle.surface_spelling.specs.Spelling.{spelling}
use Rattle.chanl_top.specs.declared.status.Status.TheVariants as status
use Rattle.chanl_words.specs.declared.Command.{Command}
use Rattle.chanl_words.specs.declared.Command.TheVariants as command
use Rattle.chanl_words.proofs.OneCommand.{one_command}
use Rattle.chanl_lines.specs.Lines.{ill_line}
use Rattle.form_faults.specs.declared.faults.Ill.{Ill}
use Rattle.core_programs.specs.declared.nodes.Parts.{Parts}
use Rattle.core_programs.specs.Form.{HasForm, IsFault, Passes}
use Rattle.core_numbering.specs.Numbering.{IsNumbering}
use Rattle.form_laws.proofs.OneFault.{one_outcome}
use Rattle.core_numbering.specs.Pure.{program_in}
use Rattle.core_numbering.proofs.Forms.{is_one_form}
use Rattle.chanl_top.specs.declared.verdicts.Verdict.{Verdict}
use Rattle.chanl_top.specs.Verdict.{replayed, lexing_line, grammar_line, line_refusal, IsUnread, IsFmtVerdict, IsTreeVerdict, IsReplayVerdict, IsTextVerdict, IsCommandVerdict, IsVerdict}
use Rattle.spelling_laws.specs.Laws.{Reads}

-- ---- a text is read as one tree, or refused by one line

same_fault : (text : List ℕ) (ts : List Token) (e f : parse.Fault) → parse.IsFirstFault text ts e → parse.IsFirstFault text ts f → e ≡ f
same_fault text ts (parse.unexpected a) (parse.unexpected b) (r, first, is) (s, second, is_too) =
    ap parse.unexpected (is ∙ ap (parse.place_of text) (one_unexpected surface program (max_levels + 1) ts r s first second) ∙ sym is_too)
same_fault text ts (parse.unexpected a) (parse.too_deep b) (r, first, is) (s, second, is_too) =
    absurd (never_both_faults surface program (max_levels + 1) ts r s first second)
same_fault text ts (parse.too_deep a) (parse.unexpected b) (r, first, is) (s, second, is_too) =
    absurd (never_both_faults surface program (max_levels + 1) ts s r second first)
same_fault text ts (parse.too_deep a) (parse.too_deep b) (r, first, is) (s, second, is_too) =
    ap parse.too_deep (is ∙ ap (parse.place_of text) (one_too_deep surface program (max_levels + 1) ts r s first second) ∙ sym is_too)

one_line : (text line other : List ℕ) → IsUnread text line → IsUnread text other → line ≡ other
one_line text line other (inl (f, first, is)) (inl (g, second, is_too)) = is ∙ ap lexing_line (one_first_fault text f g first second) ∙ sym is_too
one_line text line other (inl (f, first, is)) (inr (ts, has, e, second, is_too)) = absurd (never_both text ts f has first)
one_line text line other (inr (ts, has, e, second, is_too)) (inl (f, first, is)) = absurd (never_both text ts f has first)
one_line text line other (inr (ts, has, e, first, is)) (inr (us, has_too, f, second, is_too)) =
    let moved = subst (λ xs. parse.IsFirstFault text xs f) (one_list text us ts has_too has) second in
    is ∙ ap grammar_line (same_fault text ts e f first moved) ∙ sym is_too

read_or_refused : (text line : List ℕ) (tree : Surface) → Reads text tree → IsUnread text line → ⊥
read_or_refused text line tree (ts, has, derives) (inl (f, first, is)) = never_both text ts f has first
read_or_refused text line tree (ts, has, derives) (inr (us, has_too, e, first, is)) =
    no_fault text us tree (subst (λ xs. Derives tree xs) (one_list text ts us has has_too) derives) e first

one_surface : (text : List ℕ) (s t : Surface) → Reads text s → Reads text t → s ≡ t
one_surface text s t (ts, has, derives) (us, has_too, derives_too) =
    one_tree surface names_pass samples program program_passes s t us (max_levels, subst (λ xs. Derives s xs) (one_list text ts us has has_too) derives) (max_levels, derives_too)

-- ---- one verdict

one_fmt : (text : List ℕ) (v u : Verdict) → IsFmtVerdict text v → IsFmtVerdict text u → v ≡ u
one_fmt text v u (inl (s, reads, is)) (inl (t, reads_too, is_too)) =
    is ∙ ap (λ tree. record { status = status.Done; output = spelling tree }) (one_surface text s t reads reads_too) ∙ sym is_too
one_fmt text v u (inl (s, reads, is)) (inr (line, unread, is_too)) = absurd (read_or_refused text line s reads unread)
one_fmt text v u (inr (line, unread, is)) (inl (t, reads, is_too)) = absurd (read_or_refused text line t reads unread)
one_fmt text v u (inr (line, unread, is)) (inr (other, unread_too, is_too)) = is ∙ ap line_refusal (one_line text line other unread unread_too) ∙ sym is_too

one_outcome_of : (tree : Surface) (p q : Parts) (r s : Option Ill) → IsNumbering tree p → IsNumbering tree q → Passes p r → Passes q s → r ≡ s
one_outcome_of tree p q r s one two found found_too = one_outcome q r s (is_one_form tree p q one two r found) found_too

-- a run of the tree's program, or the line of the fault of its parts
abbrev Runs : Surface → ℕ → Parts → Verdict → Type 0
Runs tree rounds parts v = (HasForm parts × (v ≡ replayed (program_in tree) rounds)) ⊎ ((ill : Ill) × IsFault parts ill × (v ≡ line_refusal (ill_line ill)))

one_run : (tree : Surface) (rounds : ℕ) (p q : Parts) (v u : Verdict) → IsNumbering tree p → IsNumbering tree q → Runs tree rounds p v → Runs tree rounds q u → v ≡ u
one_run tree rounds p q v u one two (inl (form, is)) (inl (form_too, is_too)) = is ∙ sym is_too
one_run tree rounds p q v u one two (inl (form, is)) (inr (ill, fault, is_too)) = absurd (none-some ill (one_outcome_of tree p q None (Some ill) one two form fault))
one_run tree rounds p q v u one two (inr (ill, fault, is)) (inl (form, is_too)) = absurd (none-some ill (sym (one_outcome_of tree p q (Some ill) None one two fault form)))
one_run tree rounds p q v u one two (inr (ill, fault, is)) (inr (other, fault_too, is_too)) =
    is ∙ ap (λ i. line_refusal (ill_line i)) (same_Some ill other (one_outcome_of tree p q (Some ill) (Some other) one two fault fault_too)) ∙ sym is_too

one_of_tree : (tree : Surface) (rounds : ℕ) (v u : Verdict) → IsTreeVerdict tree rounds v → IsTreeVerdict tree rounds u → v ≡ u
one_of_tree tree rounds v u (inl (core, (p, one, runs))) (inl (core_too, (q, two, runs_too))) = one_run tree rounds p q v u one two runs runs_too
one_of_tree tree rounds v u (inl (core, run)) (inr (session, is)) = absurd (true≢false (sym core ∙ session))
one_of_tree tree rounds v u (inr (session, is)) (inl (core, run)) = absurd (true≢false (sym core ∙ session))
one_of_tree tree rounds v u (inr (session, is)) (inr (session_too, is_too)) = is ∙ sym is_too

one_replay : (rounds : ℕ) (text : List ℕ) (v u : Verdict) → IsReplayVerdict rounds text v → IsReplayVerdict rounds text u → v ≡ u
one_replay rounds text v u (inl (s, reads, is)) (inl (t, reads_too, is_too)) =
    one_of_tree t rounds v u (subst (λ tree. IsTreeVerdict tree rounds v) (one_surface text s t reads reads_too) is) is_too
one_replay rounds text v u (inl (s, reads, is)) (inr (line, unread, is_too)) = absurd (read_or_refused text line s reads unread)
one_replay rounds text v u (inr (line, unread, is)) (inl (t, reads, is_too)) = absurd (read_or_refused text line t reads unread)
one_replay rounds text v u (inr (line, unread, is)) (inr (other, unread_too, is_too)) = is ∙ ap line_refusal (one_line text line other unread unread_too) ∙ sym is_too

one_of_text : (c : Command) (text : List ℕ) (v u : Verdict) → IsTextVerdict c text v → IsTextVerdict c text u → v ≡ u
one_of_text command.Fmt text v u is is_too = one_fmt text v u is is_too
one_of_text (command.Replay rounds) text v u is is_too = one_replay rounds text v u is is_too

one_of_command : (c : Command) (text : List ℕ) (v u : Verdict) → IsCommandVerdict c text v → IsCommandVerdict c text u → v ≡ u
one_of_command c text v u (inl (few, is)) (inl (few_too, is_too)) = one_of_text c text v u is is_too
one_of_command c text v u (inl (few, is)) (inr (many, is_too)) = absurd (omega (arith, few, many))
one_of_command c text v u (inr (many, is)) (inl (few, is_too)) = absurd (omega (arith, few, many))
one_of_command c text v u (inr (many, is)) (inr (many_too, is_too)) = is ∙ sym is_too

pub one_verdict : (words : List (List ℕ)) (bytes : List ℕ) (v u : Verdict) → IsVerdict words bytes v → IsVerdict words bytes u → v ≡ u
one_verdict words bytes v u (inl (c, admitted, is)) (inl (d, admitted_too, is_too)) =
    one_of_command c bytes v u is (subst (λ k. IsCommandVerdict k bytes u) (one_command words d c admitted_too admitted) is_too)
one_verdict words bytes v u (inl (c, admitted, is)) (inr (none, is_too)) = absurd (none c admitted)
one_verdict words bytes v u (inr (none, is)) (inl (c, admitted, is_too)) = absurd (none c admitted)
one_verdict words bytes v u (inr (none, is)) (inr (none_too, is_too)) = is ∙ sym is_too
