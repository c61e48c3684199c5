-- Writes at different names commute.
use Rattle.std.proofs.Common.{◌≡◌, ◌≢◌, Bool, true, false, cond, List, [], ◌∷◌, Option, Some, None, refl, ap, sym, ◌∙◌}
use Rattle.std.specs.Cmp.Lexicographic.{nat_list_cmp_total}
use Rattle.std.specs.FinMap.{get, insert, remove, get-insert, get-remove, same_map}
use Rattle.std.proofs.lemmas.Map.Lookups.{exact_bytes}
use Rattle.core_language.specs.Names.{Name, NameMap, same_name}
use Rattle.moved_uses.proofs.Bags.{name-is, differ_name}
use Rattle.good_orders.specs.Changes.{write, write_all}

module _ {X : Type 0} where
  get-write : (m : NameMap X) (w : Name × Option X) (n : Name) → get (write m w) n ≡ cond (same_name n w.0) (w.1) (get m n)
  get-write m (p, None) n = get-remove nat_list_cmp_total m p n
  get-write m (p, Some x) n = get-insert nat_list_cmp_total m p x n

  same_look : (m n : NameMap X) → ((q : Name) → get m q ≡ get n q) → m ≡ n
  same_look m n h = same_map nat_list_cmp_total exact_bytes m n h

  write_swap : (m : NameMap X) (v w : Name × Option X) → v.0 ≢ w.0 → write (write m v) w ≡ write (write m w) v
  write_swap m v w apart = same_look (write (write m v) w) (write (write m w) v) (λ n.
      get-write (write m v) w n ∙ ap (cond (same_name n w.0) (w.1)) (get-write m v n) ∙ by n (same_name n v.0) refl (same_name n w.0) refl
      ∙ sym (get-write (write m w) v n ∙ ap (cond (same_name n v.0) (v.1)) (get-write m w n)))
    where
      by : (n : Name) (a : Bool) → same_name n v.0 ≡ a → (b : Bool) → same_name n w.0 ≡ b → cond b (w.1) (cond a (v.1) (get m n)) ≡ cond a (v.1) (cond b (w.1) (get m n))
      by n true e true f = absurd (apart (sym (name-is n v.0 e) ∙ name-is n w.0 f))
      by n true e false f = refl
      by n false e true f = refl
      by n false e false f = refl

  -- no name of the first list is one of the second
  abbrev pub Apart : Name → List (Name × Option X) → Type 0
  Apart p [] = Unit {0}
  Apart p (w ∷ ws) = (p ≢ w.0) × Apart p ws

  abbrev pub AllApart : List (Name × Option X) → List (Name × Option X) → Type 0
  AllApart [] ws = Unit {0}
  AllApart (v ∷ vs) ws = Apart v.0 ws × AllApart vs ws

  write_past : (m : NameMap X) (v : Name × Option X) (ws : List (Name × Option X)) → Apart v.0 ws → write_all (write m v) ws ≡ write (write_all m ws) v
  write_past m v [] h = refl
  write_past m v (w ∷ ws) h = ap (λ z. write_all z ws) (write_swap m v w (h.0)) ∙ write_past (write m w) v ws (h.1)

  pub write_both : (m : NameMap X) (vs ws : List (Name × Option X)) → AllApart vs ws → write_all (write_all m vs) ws ≡ write_all (write_all m ws) vs
  write_both m [] ws h = refl
  write_both m (v ∷ vs) ws h = write_both (write m v) vs ws (h.1) ∙ ap (λ z. write_all z vs) (write_past m v ws (h.0))

  pub get_past : (m : NameMap X) (n : Name) (ws : List (Name × Option X)) → Apart n ws → get (write_all m ws) n ≡ get m n
  get_past m n [] h = refl
  get_past m n (w ∷ ws) h = get_past (write m w) n ws (h.1) ∙ get-write m w n ∙ ap (λ b. cond b (w.1) (get m n)) (differ_name n w.0 (h.0))
