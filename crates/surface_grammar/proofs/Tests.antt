-- The grammar passes the tests, and each name has a tree.
use Rattle.std.proofs.Common.{◌≡◌, true, List, [], ◌∷◌, refl}
use Rattle.text_tokens.specs.Text.{Token}
use Rattle.grammar_laws.specs.Grammar.{named, below}
use Rattle.grammar_laws.specs.Check.{guarded}
use Rattle.grammar_laws.specs.Laws.{name_tests, tests, Samples}
use Rattle.grammar_laws.proofs.Sound.{named_sound}
use Rattle.surface_grammar.specs.declared.words.Word.TheVariants as w
use Rattle.surface_grammar.specs.Words.{spelling, code, code_of, number_code, sample}
use Rattle.surface_grammar.specs.Grammar.{Rule, AValue, ARes, ABlock, cover, name, number, arm_number, the_number, letters, names}
use Rattle.surface_grammar.specs.Terms.{times, number_prod, prod, minus_prod, first_part, next_part, more_parts, term, number_part, number_term, terms, one_term, two_terms, term_and_number, relation, limit, limits, limits_to_bracket, binds, bound, dual, args, reference, two_res, next_res, more_res, sum_res, shape, res, param}
use Rattle.surface_grammar.specs.Operands.{pair, parenthesized, numbered_value, value, values, given_values, bracketed, names_if_any, pat, route, ratio, minus_mention, plain_mention, mention, mentions, more_mentions, mentions_to_brace, behind_number, minus_mentions, cert_parts, cert, certs, bracketed_terms, bracketed_certs, instances, certificates, proof}
use Rattle.surface_grammar.specs.Statements.{access, target, call, start, more_starts, starts, task_params, task, forked, tail, given_name, given_term, numbered_choice, given_target, given_end, given, given_to_pattern, behind_name, two_pats, given_to_pair, behind_pats, binding, let_stmt, send1_stmt, close_stmt, wait_stmt, print_stmt, stmt, ret_last, tail_last, at_most, two_blocks, if_last, hash_pat, left_pat, right_pat, arm, more_arms, arms, match_last, as_names, next_block, more_blocks, blocks, branch_last, absurd_last, loop_params, loop_last, again_last, other_last, last, stmts, block}
use Rattle.surface_grammar.specs.Declarations.{then_ref, two_refs, branch, equation, next_ref, more_refs, alternatives, choice, pbody, names_to_paren, proto_params, proto, params, func_params, func, decl, decls, program}
use Rattle.surface_grammar.specs.Language.{body, firsts, surface}

-- what each name stands for passes
pub names_pass : (x : Rule) → name_tests surface x ≡ true
unfolding spelling code body name number arm_number the_number letters names times number_prod prod minus_prod first_part next_part more_parts term number_part number_term terms one_term two_terms term_and_number relation limit limits limits_to_bracket binds bound dual args reference two_res next_res more_res sum_res shape res param pair parenthesized numbered_value value values given_values bracketed names_if_any pat route ratio minus_mention plain_mention mention mentions more_mentions mentions_to_brace behind_number minus_mentions cert_parts cert certs bracketed_terms bracketed_certs instances certificates proof access target call start more_starts starts task_params task forked tail given_name given_term numbered_choice given_target given_end given given_to_pattern behind_name two_pats given_to_pair behind_pats binding let_stmt send1_stmt close_stmt wait_stmt print_stmt stmt ret_last tail_last at_most two_blocks if_last hash_pat left_pat right_pat arm more_arms arms match_last as_names next_block more_blocks blocks branch_last absurd_last loop_params loop_last again_last other_last last stmts block
names_pass AValue = refl
names_pass ARes = refl
names_pass ABlock = refl

-- so does the program
pub program_passes : tests surface program ≡ true
unfolding spelling code body name number arm_number the_number letters names times number_prod prod minus_prod first_part next_part more_parts term number_part number_term terms one_term two_terms term_and_number relation limit limits limits_to_bracket binds bound dual args reference two_res next_res more_res sum_res shape res param pair parenthesized numbered_value value values given_values bracketed names_if_any pat route ratio minus_mention plain_mention mention mentions more_mentions mentions_to_brace behind_number minus_mentions cert_parts cert certs bracketed_terms bracketed_certs instances certificates proof access target call start more_starts starts task_params task forked tail given_name given_term numbered_choice given_target given_end given given_to_pattern behind_name two_pats given_to_pair behind_pats binding let_stmt send1_stmt close_stmt wait_stmt print_stmt stmt ret_last tail_last at_most two_blocks if_last hash_pat left_pat right_pat arm more_arms arms match_last as_names next_block more_blocks blocks branch_last absurd_last loop_params loop_last again_last other_last last stmts block then_ref two_refs branch equation next_ref more_refs alternatives choice pbody names_to_paren proto_params proto params func_params func decl decls program
program_passes = refl

-- `0`
abbrev a_value : List Token
a_value = sample number_code (λ _. true) ∷ []

-- `unit`
abbrev a_res : List Token
a_res = sample (code_of w.Unit) (λ _. true) ∷ []

-- `{ ret 0 }`
abbrev a_block : List Token
a_block = sample (code_of w.LeftBrace) (λ _. true) ∷ sample (code_of w.Ret) (λ _. true) ∷ sample number_code (λ _. true) ∷ sample (code_of w.RightBrace) (λ _. true) ∷ []

pub samples : Samples surface
unfolding named below cover spelling code body name number arm_number the_number letters names times number_prod prod minus_prod first_part next_part more_parts term number_part number_term terms one_term two_terms term_and_number relation limit limits limits_to_bracket binds bound dual args reference two_res next_res more_res sum_res shape res param pair parenthesized numbered_value value values given_values bracketed names_if_any pat route ratio minus_mention plain_mention mention mentions more_mentions mentions_to_brace behind_number minus_mentions cert_parts cert certs bracketed_terms bracketed_certs instances certificates proof access target call start more_starts starts task_params task forked tail given_name given_term numbered_choice given_target given_end given given_to_pattern behind_name two_pats given_to_pair behind_pats binding let_stmt send1_stmt close_stmt wait_stmt print_stmt stmt ret_last tail_last at_most two_blocks if_last hash_pat left_pat right_pat arm more_arms arms match_last as_names next_block more_blocks blocks branch_last absurd_last loop_params loop_last again_last other_last last stmts block
samples AValue = let i = named_sound code firsts body 0 AValue a_value _ [] refl in (0, _, i.0, i.2)
samples ARes = let i = named_sound code firsts body 0 ARes a_res _ [] refl in (0, _, i.0, i.2)
samples ABlock = let i = named_sound code firsts body 1 ABlock a_block _ [] refl in (1, _, i.0, i.2)

-- each use of a name in what a name stands for is a level deeper

pub value_guarded : guarded value ≡ true
unfolding name number arm_number the_number letters names times number_prod prod minus_prod first_part next_part more_parts term number_part number_term terms one_term two_terms term_and_number relation limit limits limits_to_bracket binds bound dual args reference two_res next_res more_res sum_res shape res param pair parenthesized numbered_value value values given_values bracketed names_if_any pat route ratio minus_mention plain_mention mention mentions more_mentions mentions_to_brace behind_number minus_mentions cert_parts cert certs bracketed_terms bracketed_certs instances certificates proof access target call start more_starts starts task_params task forked tail given_name given_term numbered_choice given_target given_end given given_to_pattern behind_name two_pats given_to_pair behind_pats binding let_stmt send1_stmt close_stmt wait_stmt print_stmt stmt ret_last tail_last at_most two_blocks if_last hash_pat left_pat right_pat arm more_arms arms match_last as_names next_block more_blocks blocks branch_last absurd_last loop_params loop_last again_last other_last last stmts block
value_guarded = refl

pub res_guarded : guarded res ≡ true
unfolding name number arm_number the_number letters names times number_prod prod minus_prod first_part next_part more_parts term number_part number_term terms one_term two_terms term_and_number relation limit limits limits_to_bracket binds bound dual args reference two_res next_res more_res sum_res shape res param pair parenthesized numbered_value value values given_values bracketed names_if_any pat route ratio minus_mention plain_mention mention mentions more_mentions mentions_to_brace behind_number minus_mentions cert_parts cert certs bracketed_terms bracketed_certs instances certificates proof access target call start more_starts starts task_params task forked tail given_name given_term numbered_choice given_target given_end given given_to_pattern behind_name two_pats given_to_pair behind_pats binding let_stmt send1_stmt close_stmt wait_stmt print_stmt stmt ret_last tail_last at_most two_blocks if_last hash_pat left_pat right_pat arm more_arms arms match_last as_names next_block more_blocks blocks branch_last absurd_last loop_params loop_last again_last other_last last stmts block
res_guarded = refl

pub block_guarded : guarded block ≡ true
unfolding name number arm_number the_number letters names times number_prod prod minus_prod first_part next_part more_parts term number_part number_term terms one_term two_terms term_and_number relation limit limits limits_to_bracket binds bound dual args reference two_res next_res more_res sum_res shape res param pair parenthesized numbered_value value values given_values bracketed names_if_any pat route ratio minus_mention plain_mention mention mentions more_mentions mentions_to_brace behind_number minus_mentions cert_parts cert certs bracketed_terms bracketed_certs instances certificates proof access target call start more_starts starts task_params task forked tail given_name given_term numbered_choice given_target given_end given given_to_pattern behind_name two_pats given_to_pair behind_pats binding let_stmt send1_stmt close_stmt wait_stmt print_stmt stmt ret_last tail_last at_most two_blocks if_last hash_pat left_pat right_pat arm more_arms arms match_last as_names next_block more_blocks blocks branch_last absurd_last loop_params loop_last again_last other_last last stmts block
block_guarded = refl
