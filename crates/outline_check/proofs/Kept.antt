-- Contexts that are kept stay while the context grows, and come back.
use Rattle.std.proofs.Common.{◌≡◌, ℕ, List, [], ◌∷◌, ◌++◌, map, length, drop, refl, sym, ap, ◌∙◌, subst, arith}
use Rattle.std.proofs.lemmas.List.{map-append, take_all, take-take, take-append-drop, length-take-le}
use Rattle.outline_contexts.specs.Trails.{Trail, Lengths, AreBelow, IsAfter, mark_of}
use Rattle.outline_contexts.specs.declared.marks.Mark.{Mark}
use Rattle.outline_contexts.specs.Reading.{marked}
use Rattle.outline_contexts.proofs.Trails.{made}
use Rattle.outline_check.specs.Stacks.{cut, kept_of, IsWithin, IsBack, AreNested}
use Rattle.outline_check.proofs.Lists.{cut_begun, longer, all_last, all_front, all_pushed}

-- ---- lists that are cut

pub cut_whole : (t : Trail) → cut (mark_of t) t ≡ t
cut_whole t = made (take_all (length t.ints) t.ints (omega arith)) (take_all (length t.hyps) t.hyps (omega arith)) (take_all (length t.names) t.names (omega arith)) (take_all (length t.shapes) t.shapes (omega arith)) (take_all (length t.taken) t.taken (omega arith))

cut_twice : (l m : Lengths) (t : Trail) → IsWithin l m → cut l (cut m t) ≡ cut l t
cut_twice l m t within = made
    (take-take l.ints m.ints t.ints within.ints)
    (take-take l.hyps m.hyps t.hyps within.hyps)
    (take-take l.names m.names t.names within.names)
    (take-take l.shapes m.shapes t.shapes within.shapes)
    (take-take l.taken m.taken t.taken within.taken)

pub after_cut : (l : Lengths) (t : Trail) → IsAfter (cut l t) t
after_cut l t = record {
  ints = (drop l.ints t.ints, sym (take-append-drop l.ints t.ints));
  hyps = (drop l.hyps t.hyps, sym (take-append-drop l.hyps t.hyps));
  names = (drop l.names t.names, sym (take-append-drop l.names t.names));
  shapes = (drop l.shapes t.shapes, sym (take-append-drop l.shapes t.shapes));
  taken = (drop l.taken t.taken, sym (take-append-drop l.taken t.taken));
}

abbrev lengths : (ints hyps names shapes taken : ℕ) → Lengths
lengths ints hyps names shapes taken = record { ints = ints; hyps = hyps; names = names; shapes = shapes; taken = taken }

same_lengths : {a b c d e f g h i j : ℕ} → a ≡ b → c ≡ d → e ≡ f → g ≡ h → i ≡ j → lengths a c e g i ≡ lengths b d f h j
same_lengths p q r s t = rw (p, q, r, s, t) refl

pub mark_cut : (l : Lengths) (t : Trail) → IsWithin l (mark_of t) → l ≡ mark_of (cut l t)
mark_cut l t within = sym (same_lengths
    (length-take-le l.ints t.ints within.ints)
    (length-take-le l.hyps t.hyps within.hyps)
    (length-take-le l.names t.names within.names)
    (length-take-le l.shapes t.shapes within.shapes)
    (length-take-le l.taken t.taken within.taken))

-- ---- growing

cut_grown : (l : Lengths) (old new : Trail) → IsWithin l (mark_of old) → IsAfter old new → cut l new ≡ cut l old
cut_grown l old new within after = made
    (cut_begun old.ints new.ints after.ints l.ints within.ints)
    (cut_begun old.hyps new.hyps after.hyps l.hyps within.hyps)
    (cut_begun old.names new.names after.names l.names within.names)
    (cut_begun old.shapes new.shapes after.shapes l.shapes within.shapes)
    (cut_begun old.taken new.taken after.taken l.taken within.taken)

back_grown : (l : Lengths) (old new : Trail) → IsBack old l → IsAfter old new → IsBack new l
back_grown l old new back after = record {
  within = record {
    ints = omega (arith, back.within.ints, longer old.ints new.ints after.ints);
    hyps = omega (arith, back.within.hyps, longer old.hyps new.hyps after.hyps);
    names = omega (arith, back.within.names, longer old.names new.names after.names);
    shapes = omega (arith, back.within.shapes, longer old.shapes new.shapes after.shapes);
    taken = omega (arith, back.within.taken, longer old.taken new.taken after.taken);
  };
  below = subst AreBelow (sym (cut_grown l old new back.within after)) back.below;
}

pub nested_grown : (ls : List Lengths) (old new : Trail) → AreNested ls old → IsAfter old new → AreNested ls new
nested_grown [] old new nested after = tt
nested_grown (l ∷ ls) old new (back, within, nested) after = (back_grown l old new back after, within, nested_grown ls old new nested after)

pub kept_grown : (ls : List Lengths) (old new : Trail) → AreNested ls old → IsAfter old new → kept_of new ls ≡ kept_of old ls
kept_grown [] old new nested after = refl
kept_grown (l ∷ ls) old new (back, within, nested) after =
    ap (λ t. t ∷ kept_of new ls) (cut_grown l old new back.within after) ∙ ap (λ ts. cut l old ∷ ts) (kept_grown ls old new nested after)

-- ---- keeping

back_whole : (t : Trail) → AreBelow t → IsBack t (mark_of t)
back_whole t below = record {
  within = record { ints = omega arith; hyps = omega arith; names = omega arith; shapes = omega arith; taken = omega arith };
  below = subst AreBelow (sym (cut_whole t)) below;
}

pub nested_pushed : (ls : List Lengths) (t : Trail) → AreNested ls t → AreBelow t → AreNested (ls ++ mark_of t ∷ []) t
nested_pushed [] t nested below = (back_whole t below, tt, tt)
nested_pushed (l ∷ ls) t (back, within, nested) below = (back, all_pushed (IsWithin l) ls (mark_of t) within back.within, nested_pushed ls t nested below)

pub kept_pushed : (ls : List Lengths) (t : Trail) → kept_of t (ls ++ mark_of t ∷ []) ≡ kept_of t ls ++ t ∷ []
kept_pushed ls t = map-append (λ (l : Lengths). cut l t) ls (mark_of t ∷ []) ∙ ap (λ u. kept_of t ls ++ u ∷ []) (cut_whole t)

-- ---- going back

back_cut : (l m : Lengths) (t : Trail) → IsWithin l m → IsWithin m (mark_of t) → IsBack t l → IsBack (cut m t) l
back_cut l m t within last back = record {
  within = subst (IsWithin l) (mark_cut m t last) within;
  below = subst AreBelow (sym (cut_twice l m t within)) back.below;
}

module _ (m : Lengths) (t : Trail) where
  pub last_back : (ls : List Lengths) → AreNested (ls ++ m ∷ []) t → IsBack t m
  last_back [] (back, within, nested) = back
  last_back (l ∷ ls) (back, within, nested) = last_back ls nested

  pub nested_cut : (ls : List Lengths) → AreNested (ls ++ m ∷ []) t → AreNested ls (cut m t)
  nested_cut [] nested = tt
  nested_cut (l ∷ ls) (back, within, nested) =
      let last = last_back ls nested in
      (back_cut l m t (all_last (IsWithin l) ls m within) last.within back, all_front (IsWithin l) ls m within, nested_cut ls nested)

  kept_cut : (ls : List Lengths) → AreNested (ls ++ m ∷ []) t → kept_of (cut m t) ls ≡ kept_of t ls
  kept_cut [] nested = refl
  kept_cut (l ∷ ls) (back, within, nested) =
      ap (λ u. u ∷ kept_of (cut m t) ls) (cut_twice l m t (all_last (IsWithin l) ls m within)) ∙ ap (λ ts. cut l t ∷ ts) (kept_cut ls nested)

  pub kept_popped : (ls : List Lengths) → AreNested (ls ++ m ∷ []) t → kept_of t (ls ++ m ∷ []) ≡ kept_of (cut m t) ls ++ cut m t ∷ []
  kept_popped ls nested = map-append (λ (l : Lengths). cut l t) ls (m ∷ []) ∙ ap (λ ts. ts ++ cut m t ∷ []) (sym (kept_cut ls nested))

-- ---- marks

pub pushed_marks : (ms ns : List Mark) (m : Mark) (l : Lengths) → ns ≡ ms ++ m ∷ [] → marked m ≡ l → map marked ns ≡ map marked ms ++ l ∷ []
pushed_marks ms ns m l is mark = ap (map marked) is ∙ map-append marked ms (m ∷ []) ∙ ap (λ (k : Lengths). map marked ms ++ k ∷ []) mark

-- the mark that comes last of all
module _ (ms left : List Mark) (m : Mark) (t : Trail) (popped : ms ≡ left ++ m ∷ []) (nested : AreNested (map marked ms) t) where
  last_nested : AreNested (map marked left ++ marked m ∷ []) t
  last_nested = subst (λ (ls : List Lengths). AreNested ls t) (pushed_marks left ms m (marked m) popped refl) nested

  last_within : IsBack t (marked m)
  last_within = last_back (marked m) t (map marked left) last_nested

  pub older_is : (older : Trail) × AreBelow older × (marked m ≡ mark_of older) × IsAfter older t
  older_is = (cut (marked m) t, last_within.below, mark_cut (marked m) t last_within.within, after_cut (marked m) t)

  module _ (new : Trail) (rewound : (older : Trail) → marked m ≡ mark_of older → IsAfter older t → new ≡ older) where
    is_cut : new ≡ cut (marked m) t
    is_cut = rewound (cut (marked m) t) (mark_cut (marked m) t last_within.within) (after_cut (marked m) t)

    pub nested_left : AreNested (map marked left) new
    nested_left = subst (AreNested (map marked left)) (sym is_cut) (nested_cut (marked m) t (map marked left) last_nested)

    pub kept_left : kept_of t (map marked ms) ≡ kept_of new (map marked left) ++ new ∷ []
    kept_left =
        ap (kept_of t) (pushed_marks left ms m (marked m) popped refl)
        ∙ kept_popped (marked m) t (map marked left) last_nested
        ∙ ap (λ (u : Trail). kept_of u (map marked left) ++ u ∷ []) (sym is_cut)
