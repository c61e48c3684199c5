-- Ends and messages that are formed.
use Rattle.std.proofs.Common.{◌≡◌, ℕ, ◌+◌, ◌<◌, Bool, true, false, not, List, [], ◌∷◌, ◌++◌, All, map, find, length, take, get_or, Some, option_map, refl, sym, ◌∙◌, ap, subst, arith}
use Rattle.std.proofs.lemmas.List.{take_more, map-append, length-map, length-take-le}
use Rattle.linear_forms.specs.Terms.{put_of}
use denote.Hole.Carrier.{hidden}
use Rattle.core_language.specs.Names.{Ident, same}
use mathlib.Core.Bool.{beq}
use Rattle.core_language.specs.Terms as sum
use Rattle.core_language.specs.Resources as resource
use Rattle.linear_forms.specs.Terms as linear
use Rattle.linear_forms.specs.Substitution.{Each, Fits, IsNormalPut, IsRefLike, IsSubst, AllFit, terms_of_res}
use Rattle.chan_syntax.specs.Reading.{term_of, ref_of, shape_of, res_of, proto_of}
use Rattle.chan_syntax.specs.declared.linear.Term.{Term}
use Rattle.chan_syntax.specs.declared.resources.Ref.{Ref}
use Rattle.chan_syntax.specs.declared.resources.Res.{Res}
use Rattle.chan_syntax.specs.declared.resources.Proto.{Proto}
use Rattle.chan_syntax.specs.declared.resources.Shape.TheVariants as s
use Rattle.chan_syntax.specs.declared.resources.Shape.TheBlock.{hidden-the_row-Res-0}
use Rattle.outline_rules.specs.Naming.{int_var_of}
use Rattle.outline_rules.specs.declared.naming.IntVar.{IntVar}
use Rattle.protocols.specs.Duals.{Message, message_of, turned_if}
use Rattle.outline_language.specs.Equations.{Direction, proto_named}
use Rattle.protocols.specs.Heads.{equation_of_end}
use Rattle.protocols.specs.Unfolding.{HasArity, HasFormed, IsMessageTooLarge}

pub pair_of : (a b : Res) → shape_of (s.Pair a b) ≡ resource.Pair (res_of a) (res_of b)
unfolding hidden hidden-the_row-Res-0
pair_of a b = refl

pub found_named : (ps : List Proto) (x : Ident) → option_map proto_of (find (λ p. same p.name x) ps) ≡ proto_named x (map proto_of ps)
found_named [] x = refl
found_named (p ∷ ps) x = pick (same p.name x) refl (found_named ps x)
  where
    pick : (b : Bool) → same p.name x ≡ b → option_map proto_of (find (λ q. same q.name x) ps) ≡ proto_named x (map proto_of ps) → option_map proto_of (find (λ q. same q.name x) (p ∷ ps)) ≡ proto_named x (map proto_of (p ∷ ps))
    pick true q again = rw q refl
    pick false q again = rw q again

-- ---- arguments

arguments_joined : (xs : List Ident) (ts : List Term) (x : Ident) (t : Term) → length xs ≡ length ts → put_of (xs ++ x ∷ []) (map term_of (ts ++ t ∷ [])) ≡ put_of xs (map term_of ts) ++ record { name = x; term = term_of t } ∷ []
arguments_joined [] [] x t e = refl
arguments_joined [] (u ∷ us) x t e = absurd (omega arith)
arguments_joined (y ∷ ys) [] x t e = absurd (omega arith)
arguments_joined (y ∷ ys) (u ∷ us) x t e = ap (λ l. record { name = y; term = term_of u } ∷ l) (arguments_joined ys us x t (omega arith))

arguments_more : (xs : List Ident) (ts : List Term) (i : ℕ) (x : Ident) (t : Term) → i < length xs → i < length ts → put_of (take (i + 1) xs) (map term_of (take (i + 1) ts)) ≡ put_of (take i xs) (map term_of (take i ts)) ++ record { name = get_or xs i x; term = term_of (get_or ts i t) } ∷ []
arguments_more xs ts i x t h k =
    rw (take_more xs i x h, take_more ts i t k) (arguments_joined (take i xs) (take i ts) (get_or xs i x) (get_or ts i t) (omega (arith, length-take-le i xs (omega arith), length-take-le i ts (omega arith))))

pub arguments_step : (xs : List Ident) (ts : List Term) (i : ℕ) (x : Ident) (t : Term) (vars more : List IntVar) (v : IntVar) → i < length xs → i < length ts → get_or xs i x ≡ x → get_or ts i t ≡ t → more ≡ vars ++ v ∷ [] → v.name ≡ x → v.term ≡ t → map int_var_of vars ≡ put_of (take i xs) (map term_of (take i ts)) → map int_var_of more ≡ put_of (take (i + 1) xs) (map term_of (take (i + 1) ts))
arguments_step xs ts i x t vars more v h k e f m n o inv =
    rw (m, map-append int_var_of vars (v ∷ []), inv, n, o) (sym (arguments_more xs ts i x t h k ∙ rw (e, f) refl))

-- as many arguments as parameters
pub arity_at : (protos : List resource.Proto) (end : Ref) (proto : Proto) → HasArity protos (ref_of end) → proto_named end.name protos ≡ Some (proto_of proto) → length end.args ≡ length proto.params
arity_at protos end proto arity named = rw length-map at (arity (proto_of proto) named)

-- ---- the next end

pub next_like : (put : List linear.IntVar) (d : Bool) (picked next : resource.Ref) → next.dual ≡ (turned_if d picked).dual → next.name ≡ picked.name → Each (IsNormalPut put [] []) picked.args next.args → IsRefLike (IsNormalPut put) [] [] (turned_if d picked) next
next_like put true picked next dual name args = record { dual = sym dual; name = sym name; args = args }
next_like put false picked next dual name args = record { dual = sym dual; name = sym name; args = args }

-- ---- the message

pub message_formed : (protos : List resource.Proto) (ref : resource.Ref) (proto : resource.Proto) (equation : resource.Equation) (message : Message) (direction : Direction) (res : resource.Res) → proto_named ref.name protos ≡ Some proto → equation ≡ equation_of_end ref.dual proto → message_of equation ≡ Some message → direction ≡ message.direction → IsSubst (put_of proto.params ref.args) message.res res → HasFormed protos ref direction res
message_formed protos ref proto equation message direction res named is has same put =
    (message, put_of proto.params ref.args, (proto, equation, (named, sym is), has, refl), same, put)

pub message_too_large : (protos : List resource.Proto) (ref : resource.Ref) (proto : resource.Proto) (equation : resource.Equation) (message : Message) → proto_named ref.name protos ≡ Some proto → equation ≡ equation_of_end ref.dual proto → message_of equation ≡ Some message → (AllFit (put_of proto.params ref.args) (terms_of_res [] message.res) → ⊥) → IsMessageTooLarge protos ref
message_too_large protos ref proto equation message named is has not_fit =
    (message, put_of proto.params ref.args, (proto, equation, (named, sym is), has, refl), not_fit)

pub message_put : (put : List linear.IntVar) (message res other : resource.Res) → message ≡ res → IsSubst put res other → IsSubst put message other
message_put put message res other e h = subst (λ (r : resource.Res). IsSubst put r other) (sym e) h

pub message_not_fit : (put : List linear.IntVar) (message res : resource.Res) → message ≡ res → (AllFit put (terms_of_res [] res) → ⊥) → AllFit put (terms_of_res [] message) → ⊥
message_not_fit put message res e none fit = none (subst (λ (r : resource.Res). AllFit put (terms_of_res [] r)) e fit)

-- the mark of the next end
pub turned_dual : (d : Bool) (r : resource.Ref) → not (beq r.dual d) ≡ (turned_if d r).dual
turned_dual true r = pick r.dual
  where
    pick : (b : Bool) → not (beq b true) ≡ not b
    pick true = refl
    pick false = refl
turned_dual false r = pick r.dual
  where
    pick : (b : Bool) → not (beq b false) ≡ b
    pick true = refl
    pick false = refl
