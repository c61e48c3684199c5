-- A body names what its node mentions, and what the bodies name that follow.
use Rattle.std.proofs.Common.{◌≡◌, ℕ, Bool, true, false, ◌||◌, List, [], ◌∷◌, ◌++◌, map, Option, Some, None, refl, sym, ap, ◌∙◌}
use Rattle.std.specs.List.{list_any}
use Rattle.std.specs.Option.{option_to_list}
use Rattle.std.proofs.lemmas.List.Folds.{list_any-append}
use Rattle.core_language.specs.Names.{Ident, same}
use Rattle.core_language.specs.Terms.{Term}
use Rattle.core_language.specs.Operands.{Supply}
use Rattle.core_language.specs.Operands as supply
use Rattle.core_language.specs.Programs.{Body}
use Rattle.core_language.specs.Configurations.{is_name, in_term, in_supply, in_supplies, names, arms_name}
use Rattle.chan_syntax.specs.Reading.{term_of, supply_of}
use Rattle.core_programs.specs.declared.nodes.Arm.{Arm}
use Rattle.core_programs.specs.declared.nodes.Node.{Node}
use Rattle.core_programs.specs.declared.nodes.Node.TheVariants as node
use Rattle.core_programs.specs.Bodies.{arms_opened, opened}
use Rattle.core_programs.specs.Formed.{nexts}
use Rattle.name_uses.specs.Uses.{term_names, supply_names, supplies_names}
use Rattle.core_programs.specs.Uses.{mentions}

pub off : (b : Bool) → (b || false) ≡ b
off true = refl
off false = refl

module _ (x : Ident) where
  part_any : (name : Option Ident) → list_any (same x) (option_to_list name) ≡ is_name x name
  part_any None = refl
  part_any (Some y) = off (same x y)

  term_any : (t : Term) → list_any (same x) (term_names t) ≡ in_term x t
  term_any [] = refl
  term_any (part ∷ parts) =
      list_any-append (same x) (option_to_list part.name) (term_names parts)
      ∙ ap (λ b. b || list_any (same x) (term_names parts)) (part_any part.name)
      ∙ ap (λ b. is_name x part.name || b) (term_any parts)

  supply_any : (s : Supply) → list_any (same x) (supply_names s) ≡ in_supply x s
  supply_any supply.Unit = refl
  supply_any (supply.Pair s t) =
      list_any-append (same x) (supply_names s) (supply_names t)
      ∙ ap (λ b. b || list_any (same x) (supply_names t)) (supply_any s)
      ∙ ap (λ b. in_supply x s || b) (supply_any t)
  supply_any (supply.Arm i s) = supply_any s
  supply_any (supply.Sum term) = term_any term

  supplies_any : (ss : List Supply) → list_any (same x) (supplies_names ss) ≡ in_supplies x ss
  supplies_any [] = refl
  supplies_any (s ∷ ss) =
      list_any-append (same x) (supply_names s) (supplies_names ss)
      ∙ ap (λ b. b || list_any (same x) (supplies_names ss)) (supply_any s)
      ∙ ap (λ b. in_supply x s || b) (supplies_any ss)

  terms_any : (s t : Term) → list_any (same x) (term_names s ++ term_names t) ≡ (in_term x s || in_term x t)
  terms_any s t =
      list_any-append (same x) (term_names s) (term_names t)
      ∙ ap (λ b. b || list_any (same x) (term_names t)) (term_any s)
      ∙ ap (λ b. in_term x s || b) (term_any t)

  none : (a b : Bool) → a ≡ b → b ≡ (a || false)
  none a b e = sym e ∙ sym (off a)

  one : (a b c : Bool) → a ≡ b → (b || c) ≡ (a || (c || false))
  one a b c e = ap (λ z. z || c) (sym e) ∙ ap (λ z. a || z) (sym (off c))

  two : (a b c d : Bool) → a ≡ b → ((b || c) || d) ≡ (a || (c || (d || false)))
  two a true c d e = sym (ap (λ z. z || (c || (d || false))) e)
  two a false c d e = ap (λ z. c || z) (sym (off d)) ∙ sym (ap (λ z. z || (c || (d || false))) e)

  arms_any : (arms : List Arm) (at : ℕ → Body) → arms_name (arms_opened arms at) x ≡ list_any (λ k. names (at k) x) (map (λ arm. arm.next) arms)
  arms_any [] at = refl
  arms_any (arm ∷ arms) at = ap (λ b. names (at arm.next) x || b) (arms_any arms at)

  -- what the body of a node names
  pub names_opened : (n : Node) (at : ℕ → Body) → names (opened n at) x ≡ (list_any (same x) (mentions n) || list_any (λ k. names (at k) x) (nexts n))
  names_opened (node.Let name name_at term next span) at = one _ _ (names (at next) x) (term_any (term_of term))
  names_opened (node.Mul name name_at left right next span) at = one _ _ (names (at next) x) (terms_any (term_of left) (term_of right))
  names_opened (node.Div name name_at term divisor divisor_at next span) at = one _ _ (names (at next) x) (term_any (term_of term))
  names_opened (node.Rem name name_at term divisor divisor_at next span) at = one _ _ (names (at next) x) (term_any (term_of term))
  names_opened (node.Call pat func func_at values proof next span) at = one _ _ (names (at next) x) (supplies_any (map supply_of values))
  names_opened (node.Tail func func_at values proof span) at = none _ _ (supplies_any (map supply_of values))
  names_opened (node.Fork name name_at proto func func_at values proof next span) at = one _ _ (names (at next) x) (supplies_any (map supply_of values))
  names_opened (node.Send1 channel channel_at path path_at value proof next span) at =
      one _ _ (names (at next) x) (ap (λ b. same x channel || b) (supply_any (supply_of value)))
  names_opened (node.Recv1 pat channel channel_at path path_at proof next span) at = one _ _ (names (at next) x) (off (same x channel))
  names_opened (node.Print term next span) at = one _ _ (names (at next) x) (term_any (term_of term))
  names_opened (node.If left right this other span) at =
      two _ _ (names (at this) x) (names (at other) x) (terms_any (term_of left) (term_of right))
  names_opened (node.Split first second name name_at next span) at = one _ _ (names (at next) x) (off (same x name))
  names_opened (node.Match name name_at arms span) at =
      ap (λ b. same x name || b) (arms_any arms at) ∙ ap (λ b. b || list_any (λ k. names (at k) x) (map (λ arm. arm.next) arms)) (sym (off (same x name)))
  names_opened (node.Absurd proof span) at = refl
  names_opened (node.Ret value proof span) at = none _ _ (supply_any (supply_of value))
