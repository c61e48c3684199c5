-- Trails grow, and are cut back to what they were.
use Rattle.std.proofs.Common.{◌≡◌, ℕ, List, [], ◌∷◌, ◌++◌, length, take, refl, sym, ap, ◌∙◌, append_assoc, append-nil}
use Rattle.core_language.specs.Names.{Ident}
use Rattle.farkas_check.specs.declared.cert.Row.{Row}
use Rattle.outline_language.specs.Nameless.{Shape}
use Rattle.outline_contexts.specs.Trails.{Trail, Begins, IsAfter, Lengths, mark_of}

pub take-front : {A : Type 0} (xs ys : List A) → take (length xs) (xs ++ ys) ≡ xs
take-front [] ys = refl
take-front (x ∷ xs) ys = ap (λ zs. x ∷ zs) (take-front xs ys)

pub begins_itself : {A : Type 0} (xs : List A) → Begins xs xs
begins_itself xs = ([], sym (append-nil xs))

pub begins-trans : {A : Type 0} (xs ys zs : List A) → Begins xs ys → Begins ys zs → Begins xs zs
begins-trans xs ys zs (more, is) (last, too) = (more ++ last, too ∙ ap (λ l. l ++ last) is ∙ append_assoc xs more last)

-- a list cut to the length of its beginning
pub cut_at : {A : Type 0} (old new : List A) (k : ℕ) → k ≡ length old → Begins old new → take k new ≡ old
cut_at old new k is (more, grown) = ap (λ n. take n new) is ∙ ap (take (length old)) grown ∙ take-front old more

pub after_itself : (t : Trail) → IsAfter t t
after_itself t = record {
  ints = begins_itself t.ints;
  hyps = begins_itself t.hyps;
  names = begins_itself t.names;
  shapes = begins_itself t.shapes;
  taken = begins_itself t.taken;
}

pub after_trans : (a b c : Trail) → IsAfter a b → IsAfter b c → IsAfter a c
after_trans a b c first second = record {
  ints = begins-trans a.ints b.ints c.ints first.ints second.ints;
  hyps = begins-trans a.hyps b.hyps c.hyps first.hyps second.hyps;
  names = begins-trans a.names b.names c.names first.names second.names;
  shapes = begins-trans a.shapes b.shapes c.shapes first.shapes second.shapes;
  taken = begins-trans a.taken b.taken c.taken first.taken second.taken;
}

abbrev pub trail : List Ident → List Row → List Ident → List Shape → List ℕ → Trail
trail ints hyps names shapes taken = record { ints = ints; hyps = hyps; names = names; shapes = shapes; taken = taken }

-- one list is longer, and the others stay
module _ (t : Trail) where
  pub more_ints : (xs more : List Ident) → xs ≡ t.ints ++ more → IsAfter t (trail xs t.hyps t.names t.shapes t.taken)
  more_ints xs more is = record { ints = (more, is); hyps = begins_itself t.hyps; names = begins_itself t.names; shapes = begins_itself t.shapes; taken = begins_itself t.taken }

  pub more_hyps : (rows more : List Row) → rows ≡ t.hyps ++ more → IsAfter t (trail t.ints rows t.names t.shapes t.taken)
  more_hyps rows more is = record { ints = begins_itself t.ints; hyps = (more, is); names = begins_itself t.names; shapes = begins_itself t.shapes; taken = begins_itself t.taken }

  pub more_taken : (ks more : List ℕ) → ks ≡ t.taken ++ more → IsAfter t (trail t.ints t.hyps t.names t.shapes ks)
  more_taken ks more is = record { ints = begins_itself t.ints; hyps = begins_itself t.hyps; names = begins_itself t.names; shapes = begins_itself t.shapes; taken = (more, is) }

  pub more_entries : (xs : List Ident) (x : Ident) (ss : List Shape) (s : Shape) → xs ≡ t.names ++ x ∷ [] → ss ≡ t.shapes ++ s ∷ [] → IsAfter t (trail t.ints t.hyps xs ss t.taken)
  more_entries xs x ss s name shape = record {
    ints = begins_itself t.ints;
    hyps = begins_itself t.hyps;
    names = (x ∷ [], name);
    shapes = (s ∷ [], shape);
    taken = begins_itself t.taken;
  }

pub made : {i j : List Ident} {h k : List Row} {n m : List Ident} {s u : List Shape} {t v : List ℕ} → i ≡ j → h ≡ k → n ≡ m → s ≡ u → t ≡ v
    → ◌≡◌ {A = Trail} (trail i h n s t) (trail j k m u v)
made e f g h i = rw (e, f, g, h, i) refl

-- the lists cut to the lengths that they had
pub cut_back : (older now : Trail) (m : Lengths) → m ≡ mark_of older → IsAfter older now
    → ◌≡◌ {A = Trail} (trail (take m.ints now.ints) (take m.hyps now.hyps) (take m.names now.names) (take m.shapes now.shapes) (take m.taken now.taken)) older
cut_back older now m is after = made
    (cut_at older.ints now.ints m.ints (ap (λ (l : Lengths). l.ints) is) after.ints)
    (cut_at older.hyps now.hyps m.hyps (ap (λ (l : Lengths). l.hyps) is) after.hyps)
    (cut_at older.names now.names m.names (ap (λ (l : Lengths). l.names) is) after.names)
    (cut_at older.shapes now.shapes m.shapes (ap (λ (l : Lengths). l.shapes) is) after.shapes)
    (cut_at older.taken now.taken m.taken (ap (λ (l : Lengths). l.taken) is) after.taken)
