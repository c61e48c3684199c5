-- Names whose parts are read one by one.
use Rattle.std.proofs.Common.{◌≡◌, ◌≢◌, ℕ, ◌<◌, ◌≤◌, ◌^◌, List, [], ◌∷◌, ◌++◌, length, Option, Some, None, refl, sym, ap, subst, ◌∙◌, arith, append_assoc, append-nil, length-append}
use Rattle.std.specs.List.{AllByRecursion, flat_map}
use Rattle.std.proofs.lemmas.List.Concat.{flat_map-append}
use Rattle.chan_base.specs.Names.{name_text, part_text}
use Rattle.name_texts.specs.Texts.{ArePartsOf, IsNameOf, IsShort}

abbrev IsSmall : ℕ → Type 0
IsSmall k = k < 2 ^ 32

all_more : (name : List ℕ) (k : ℕ) → AllByRecursion IsSmall name → k < 2 ^ 32 → AllByRecursion IsSmall (name ++ k ∷ [])
all_more [] k all small = (small, tt)
all_more (j ∷ name) k all small = (all.0, all_more name k all.1 small)

short_more : (name : List ℕ) (k : ℕ) → length name < 1024 → IsShort name → k < 2 ^ 32 → IsShort (name ++ k ∷ [])
short_more name k few short small = (omega (arith, length-append name (k ∷ []), few), all_more name k short.1 small)

next_small : (name more : List ℕ) (k : ℕ) → AllByRecursion IsSmall (name ++ k ∷ more) → k < 2 ^ 32
next_small [] more k all = all.0
next_small (j ∷ name) more k all = next_small name more k all.1

-- these parts of the text were read, and each short name with this text has them and goes on with the rest
abbrev pub Reads : List ℕ → List ℕ → List ℕ → Type 0
Reads text name rest = (text ≡ flat_map part_text name ++ rest) × IsShort name
    × ((whole : List ℕ) → text ≡ flat_map part_text whole → IsShort whole → (more : List ℕ) × (whole ≡ name ++ more) × (rest ≡ flat_map part_text more))

pub begins : (text : List ℕ) → Reads text [] text
begins text = (refl, (omega arith, tt), λ whole is short. (whole, refl, is))

-- one more part is read, the only one that the rest may begin with
pub goes_on : (text name rest more : List ℕ) (k : ℕ) → Reads text name rest → length name < 1024 → rest ≢ [] → rest ≡ part_text k ++ more → k < 2 ^ 32
    → ((j : ℕ) (parts : List ℕ) → j < 2 ^ 32 → rest ≡ part_text j ++ flat_map part_text parts → (j ≡ k) × (flat_map part_text parts ≡ more))
    → Reads text (name ++ k ∷ []) more
goes_on text name rest more k reads few some is small only = (front, short_more name k few reads.1 small, λ whole told short. go whole short (reads.2 whole told short))
  where
    front : text ≡ flat_map part_text (name ++ k ∷ []) ++ more
    front =
        reads.0 ∙ ap (λ r. flat_map part_text name ++ r) is
        ∙ sym (ap (λ t. t ++ more) (flat_map-append part_text name (k ∷ []) ∙ ap (λ t. flat_map part_text name ++ t) (append-nil (part_text k)))
        ∙ append_assoc (flat_map part_text name) (part_text k) more)

    go : (whole : List ℕ) → IsShort whole → ((parts : List ℕ) × (whole ≡ name ++ parts) × (rest ≡ flat_map part_text parts))
        → (parts : List ℕ) × (whole ≡ (name ++ k ∷ []) ++ parts) × (more ≡ flat_map part_text parts)
    go whole short ([], same, none) = absurd (some none)
    go whole short (j ∷ parts, same, goes) =
        let own : j < 2 ^ 32 = next_small name parts j (subst (AllByRecursion IsSmall) same short.1) in
        let (here, behind) = only j parts own goes in
        (parts, same ∙ ap (λ i. name ++ i ∷ parts) here ∙ sym (append_assoc name (k ∷ []) parts), sym behind)

-- the rest begins with no part
pub stops : (text name rest : List ℕ) → Reads text name rest → rest ≢ []
    → ((j : ℕ) (parts : List ℕ) → j < 2 ^ 32 → rest ≡ part_text j ++ flat_map part_text parts → ⊥)
    → ArePartsOf text None
stops text name rest reads some none whole = (λ e. cc, λ told. absurd (go told.1 (reads.2 whole told.0 told.1)))
  where
    go : IsShort whole → ((parts : List ℕ) × (whole ≡ name ++ parts) × (rest ≡ flat_map part_text parts)) → ⊥
    go short ([], same, is) = some is
    go short (j ∷ parts, same, is) = none j parts (next_small name parts j (subst (AllByRecursion IsSmall) same short.1)) is

-- no more parts may come, and some text is left
pub too_many : (text name rest : List ℕ) → Reads text name rest → rest ≢ [] → 1024 ≤ length name → ArePartsOf text None
too_many text name rest reads some full whole = (λ e. cc, λ told. absurd (go told.1 (reads.2 whole told.0 told.1)))
  where
    go : IsShort whole → ((parts : List ℕ) × (whole ≡ name ++ parts) × (rest ≡ flat_map part_text parts)) → ⊥
    go short ([], same, is) = some is
    go short (j ∷ parts, same, is) = absurd (omega (arith, short.0, full, ap length same, length-append name (j ∷ parts)))

-- all of it was read
pub ends : (text name rest : List ℕ) → Reads text name rest → rest ≡ [] → ArePartsOf text (Some name)
ends text name rest reads none whole = (λ e. told e, λ told. ap Some (sym (go (reads.2 whole told.0 told.1))))
  where
    told : Some name ≡ Some whole → (text ≡ flat_map part_text whole) × IsShort whole
    told e =
        let same : name ≡ whole = cc in
        subst (λ n. (text ≡ flat_map part_text n) × IsShort n) same (reads.0 ∙ ap (λ r. flat_map part_text name ++ r) none ∙ append-nil (flat_map part_text name), reads.1)

    go : ((parts : List ℕ) × (whole ≡ name ++ parts) × (rest ≡ flat_map part_text parts)) → whole ≡ name
    go ([], same, is) = same ∙ append-nil name
    go (j ∷ parts, same, is) = let bad : ⊥ = cc in absurd bad

pub read_back : (name : List ℕ) (found : Option (List ℕ)) → IsShort name → IsNameOf (name_text name) found → found ≡ Some name
read_back name found short is = (is name).1 (refl, short)
