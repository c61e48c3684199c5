-- Lists whose members have one property, and short names.
use Rattle.std.proofs.Common.{ℕ, ◌+◌, ◌<◌, ◌≤◌, List, [], ◌∷◌, ◌++◌, All, map, take, get_or, length, option_to_list, arith}
use Rattle.std.proofs.lemmas.List.{take_more}
use Rattle.std.proofs.lemmas.List.Elements.{All-nil, All-cons, All-append, All-head, All-tail}
use Rattle.core_language.specs.Names.{Ident}
use Rattle.core_language.specs.Terms.{Term}
use Rattle.core_language.specs.Resources.{Shape, Res, Resources}
use Rattle.core_language.specs.Resources as resource
use Rattle.linear_forms.specs.Terms.{IntVar}
use Rattle.linear_forms.specs.Normal.{names_of}
use Rattle.linear_forms.specs.Replacing.{IsShort, IsShortTerm, IsShortLimit, IsShortShape, IsShortRes, AreShortResources, ArePutShort}

pub all_more : {X : Type 0} (P Q : X → Type 0) (xs : List X) (i : ℕ) (d : X) → i < length xs → ((x : X) → P x → Q x) → All P (take i xs) → Q (get_or xs i d) → All Q (take (i + 1) xs)
all_more P Q xs i d l h a q =
    rw (take_more xs i d l) (All-append Q (take i xs) (get_or xs i d ∷ []) (λ k e m. h (get_or (take i xs) k e) (a k e m)) (All-cons Q (get_or xs i d) [] q (All-nil Q)))

pub all_map : {X Y : Type 0} (P : Y → Type 0) (f : X → Y) (xs : List X) → All (λ x. P (f x)) xs → All P (map f xs)
all_map P f [] h = All-nil P
all_map P f (x ∷ xs) h = All-cons P (f x) (map f xs) (All-head (λ y. P (f y)) x xs h) (all_map P f xs (All-tail (λ y. P (f y)) x xs h))

pub all_left : {X : Type 0} (P : X → Type 0) (xs ys : List X) → All P (xs ++ ys) → All P xs
all_left P [] ys h = All-nil P
all_left P (x ∷ xs) ys h = All-cons P x xs (All-head P x (xs ++ ys) h) (all_left P xs ys (All-tail P x (xs ++ ys) h))

pub all_right : {X : Type 0} (P : X → Type 0) (xs ys : List X) → All P (xs ++ ys) → All P ys
all_right P [] ys h = h
all_right P (x ∷ xs) ys h = all_right P xs ys (All-tail P x (xs ++ ys) h)

pub longer_names : (m n : ℕ) (xs : List Ident) → m ≤ n → All (IsShort m) xs → All (IsShort n) xs
longer_names m n xs l h = λ k d b. let short = h k d b in omega arith

pub longer_limits : (m n : ℕ) (xs : List _) → m ≤ n → All (IsShortLimit m) xs → All (IsShortLimit n) xs
longer_limits m n xs l h = λ k d b. record {
  left = longer_names m n (names_of (get_or xs k d).left) l (h k d b).left;
  right = longer_names m n (names_of (get_or xs k d).right) l (h k d b).right;
}

mutual
  pub longer_shape : (m n : ℕ) (s : Shape) → m ≤ n → IsShortShape m s → IsShortShape n s
  longer_shape m n resource.Unit l h = h
  longer_shape m n (resource.Int t) l h = longer_names m n (names_of t) l h
  longer_shape m n (resource.End r) l h = λ k d b. longer_names m n (names_of (get_or r.args k d)) l (h k d b)
  longer_shape m n (resource.Pair a b) l h = (longer_res m n a l h.0, longer_res m n b l h.1)
  longer_shape m n (resource.Sum rs) l h = longer_resources m n rs l h

  pub longer_res : (m n : ℕ) (r : Res) → m ≤ n → IsShortRes m r → IsShortRes n r
  longer_res m n (resource.Binds b s) l h = (longer_names m n b.names l h.0, longer_limits m n b.limits l h.1, longer_shape m n s l h.2)

  pub longer_resources : (m n : ℕ) (rs : Resources) → m ≤ n → AreShortResources m rs → AreShortResources n rs
  longer_resources m n resource.NoMore l h = h
  longer_resources m n (resource.More r rs) l h = (longer_res m n r l h.0, longer_resources m n rs l h.1)

-- names are short where those of each part are
pub short_parts : (most : ℕ) (ps : Term) → All (λ p. All (IsShort most) (option_to_list p.name)) ps → IsShortTerm most ps
short_parts most [] h = All-nil (IsShort most)
short_parts most (p ∷ ps) h =
    All-append (IsShort most) (option_to_list p.name) (names_of ps) (All-head (λ p. All (IsShort most) (option_to_list p.name)) p ps h) (short_parts most ps (All-tail (λ p. All (IsShort most) (option_to_list p.name)) p ps h))

-- some length that no name is longer than
pub name_bound : (xs : List Ident) → (most : ℕ) × All (IsShort most) xs
name_bound [] = (0, All-nil (IsShort 0))
name_bound (x ∷ xs) =
    let rest = name_bound xs in
    (length x + rest.0, All-cons (IsShort (length x + rest.0)) x xs (omega arith) (longer_names rest.0 (length x + rest.0) xs (omega arith) rest.1))

pub put_bound : (put : List IntVar) → (most : ℕ) × ArePutShort most put
put_bound [] = (0, All-nil (λ v. IsShortTerm 0 v.term))
put_bound (v ∷ vs) =
    let here = name_bound (names_of v.term) in
    let rest = put_bound vs in
    (here.0 + rest.0, All-cons (λ v. IsShortTerm (here.0 + rest.0) v.term) v vs (longer_names here.0 (here.0 + rest.0) (names_of v.term) (omega arith) here.1) (λ k d b. longer_names rest.0 (here.0 + rest.0) (names_of (get_or vs k d).term) (omega arith) (rest.1 k d b)))
