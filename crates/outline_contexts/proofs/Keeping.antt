-- What is kept of a trail stays right as entries come, are taken and are given back.
use Rattle.std.proofs.Common.{◌≡◌, ℕ, ◌+◌, ◌<◌, ◌≤◌, Bool, true, false, not, List, [], ◌∷◌, ◌++◌, length, take, drop, All, Some, get_or, refl, sym, ap, ◌∙◌, subst, arith}
use Rattle.std.specs.List.{slice_get, slice_set}
use Rattle.std.proofs.lemmas.Option.{slice_get-get_or}
use Rattle.std.proofs.lemmas.List.{length_push, length-append, drop_at}
use Rattle.std.proofs.lemmas.List.Elements.{All-push, All-take, All-weaker}
use Rattle.std.proofs.lemmas.List.FromFn.{length-map-range_with_len, get_or-map-range_with_len}
use Rattle.core_language.specs.Names.{Ident}
use Rattle.farkas_check.specs.Rows.{IsNarrow}
use Rattle.outline_language.specs.Nameless.{Shape}
use Rattle.outline_language.specs.Contexts.{hold}
use Rattle.outline_contexts.specs.Trails.{Trail, Begins, IsAfter, AreBelow, is_taken, is_held, context_in}
use Rattle.outline_contexts.specs.Kept.{held_of, released, AreApart, IsKept}
use Rattle.outline_contexts.proofs.Trails.{trail, cut_at}
use Rattle.outline_contexts.proofs.Held.{held_less, held_more, given_back, apart_first, apart_more, take_held}
use Rattle.outline_contexts.proofs.Entries.{held_last}

pub begins_short : {A : Type 0} (old new : List A) → Begins old new → length old ≤ length new
begins_short old new (more, is) = let long = ap length is ∙ length-append old more in omega (arith, long)

module _ (t : Trail) (held : List Bool) (kept : IsKept t held) where
  pub held_long : length held ≡ length t.shapes
  held_long = ap length kept.held ∙ length-map-range_with_len (is_held t.taken) 0 (length t.shapes)

  -- whether the entry at a place is held
  pub held_at : (p : ℕ) (d : Bool) → p < length t.shapes → get_or held p d ≡ is_held t.taken p
  held_at p d within = ap (λ hs. get_or hs p d) kept.held ∙ get_or-map-range_with_len (is_held t.taken) 0 (length t.shapes) p p d within (omega arith)

  -- an entry more
  module _ (xs : List Ident) (x : Ident) (ss : List Shape) (s : Shape) (name : xs ≡ t.names ++ x ∷ []) (shape : ss ≡ t.shapes ++ s ∷ []) where
    pub held_so : context_in (trail t.ints t.hyps xs ss t.taken) ≡ hold (context_in t) x s
    held_so =
        ap (λ (ys : List Ident). context_in (trail t.ints t.hyps ys ss t.taken)) name
        ∙ ap (λ (zs : List Shape). context_in (trail t.ints t.hyps (t.names ++ x ∷ []) zs t.taken)) shape
        ∙ held_last t x s kept.as_many kept.below

    pub kept_more : (hs : List Bool) → hs ≡ held ++ true ∷ [] → IsKept (trail t.ints t.hyps xs ss t.taken) hs
    kept_more hs is =
        let longer : length ss ≡ length t.shapes + 1 = ap length shape ∙ length_push t.shapes s in
        let named : length xs ≡ length t.names + 1 = ap length name ∙ length_push t.names x in
        record {
          few = kept.few;
          narrow = kept.narrow;
          as_many = omega (arith, longer, named, kept.as_many);
          held = is ∙ ap (λ bs. bs ++ true ∷ []) kept.held ∙ sym (held_more t.taken (length t.shapes) (length ss) longer kept.below);
          below = All-weaker (λ k. k < length t.shapes) (λ k. k < length ss) (λ k less. omega (arith, less, longer)) t.taken kept.below;
          apart = kept.apart;
        }

  -- an entry is taken
  pub kept_less : (p : ℕ) (ks : List ℕ) (hs : List Bool) → p < length t.shapes → is_taken t.taken p ≡ false → ks ≡ t.taken ++ p ∷ [] → hs ≡ slice_set held p false
      → IsKept (trail t.ints t.hyps t.names t.shapes ks) hs
  kept_less p ks hs within free place set =
      subst (λ (ls : List ℕ). IsKept (trail t.ints t.hyps t.names t.shapes ls) hs) (sym place)
      (record {
        few = kept.few;
        narrow = kept.narrow;
        as_many = kept.as_many;
        held = set ∙ ap (λ bs. slice_set bs p false) kept.held ∙ held_less t.taken (length t.shapes) p;
        below = All-push (λ k. k < length t.shapes) t.taken p kept.below within;
        apart = apart_more t.taken p kept.apart free;
      })

  -- what came since is cut off
  pub kept_back : (older : Trail) (hs : List Bool) → AreBelow older → length older.names ≡ length older.shapes → IsAfter older t
      → hs ≡ released (drop (length older.taken) t.taken) (take (length older.shapes) held) → IsKept older hs
  kept_back older hs below as_many after is =
      let ints = begins_short older.ints t.ints after.ints in
      let shapes = begins_short older.shapes t.shapes after.shapes in
      let (more, grown) = after.taken in
      let apart : AreApart (older.taken ++ more) = subst AreApart grown kept.apart in
      let rest : drop (length older.taken) t.taken ≡ more = ap (drop (length older.taken)) grown ∙ drop_at older.taken more (length older.taken) refl in
      let held_then : take (length older.shapes) held ≡ held_of (older.taken ++ more) (length older.shapes) =
      ap (take (length older.shapes)) kept.held ∙ take_held t.taken (length t.shapes) (length older.shapes) shapes ∙ ap (λ ks. held_of ks (length older.shapes)) grown in
      record {
        few = omega (arith, ints, kept.few);
        narrow = subst (All IsNarrow) (cut_at older.hyps t.hyps (length older.hyps) refl after.hyps) (All-take IsNarrow (length older.hyps) t.hyps kept.narrow);
        as_many = as_many;
        held = is ∙ ap (λ ks. released ks (take (length older.shapes) held)) rest ∙ ap (released more) held_then ∙ given_back older.taken more (length older.shapes) apart;
        below = below;
        apart = apart_first older.taken more apart;
      }

-- a place within a list has an element
pub there : {A : Type 0} (xs : List A) (i : ℕ) → i < length xs → (x : A) × (slice_get xs i ≡ Some x)
there [] i within = absurd (omega (arith, within))
there (x ∷ xs) i within = (get_or (x ∷ xs) i x, slice_get-get_or (x ∷ xs) i x within)

-- what isn't held was taken
pub taken_where : (b : Bool) → not b ≡ false → b ≡ true
taken_where true is = refl
taken_where false is = absurd cc

pub free_where : (b : Bool) → not b ≡ true → b ≡ false
free_where true is = absurd cc
free_where false is = refl
