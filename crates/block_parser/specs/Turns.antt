-- What is left of a loop over the arms of a match.
use Rattle.std.specs.Prelude.{ℕ, ◌-◌, List, ◌++◌}
use Rattle.chan_syntax.specs.declared.surface_tree.SurfaceArm.{SurfaceArm}
use Rattle.text_tokens.specs.Text.{Token}
use Rattle.grammar_laws.specs.Grammar.{Outcome, Got, and_then}
use Rattle.surface_grammar.specs.Statements.{arms_from}
use Rattle.surface_grammar.specs.Language.{At}

-- the arms from this number on, behind those that are found
abbrev pub arms_turns : ℕ → ℕ → List SurfaceArm → List Token → Outcome Token (List SurfaceArm)
arms_turns n number found ts = and_then (At n (arms_from (16 - number) number) ts) (λ arms r. Got (found ++ arms) r)
