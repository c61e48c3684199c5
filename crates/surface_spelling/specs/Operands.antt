-- The words of terms, references, resources, values, patterns, paths and proofs.
use Rattle.std.specs.Prelude.{ℕ, ◌==◌, pos, int_lt, unsigned_abs, Bool, ◌||◌, if◌then◌else◌, codes, List, [], ◌∷◌, ◌++◌, map, Option, Some, None}
use Rattle.chan_syntax.specs.declared.linear.Part.{Part}
use Rattle.chan_syntax.specs.declared.linear.Term.{Term}
use Rattle.chan_syntax.specs.declared.linear.Relation.{Relation}
use Rattle.chan_syntax.specs.declared.linear.Relation.TheVariants as relation
use Rattle.chan_syntax.specs.declared.linear.Limit.{Limit}
use Rattle.chan_syntax.specs.declared.resources.Ref.{Ref}
use Rattle.chan_syntax.specs.declared.resources.Shape.{Shape, Unit, Int, End, Pair', Sum', Row_of-Res, end_of-Res, more_of-Res}
use Rattle.chan_syntax.specs.declared.resources.Res.{Res}
use Rattle.chan_syntax.specs.declared.resources.Param.{Param}
use Rattle.chan_syntax.specs.declared.operands.Supply.{Supply, Unit as SupplyUnit, Pair' as SupplyPair', Arm', Sum as SupplySum, Row_of-Supply, end_of-Supply, more_of-Supply}
use Rattle.chan_syntax.specs.declared.operands.Pat.{Pat}
use Rattle.chan_syntax.specs.declared.operands.Letter.{Letter}
use Rattle.chan_syntax.specs.declared.operands.Letter.TheVariants as letter
use Rattle.chan_syntax.specs.declared.operands.WrittenMention.{WrittenMention}
use Rattle.chan_syntax.specs.declared.operands.WrittenCert.{WrittenCert}
use Rattle.chan_syntax.specs.declared.operands.Proof.{Proof}
use Rattle.text_tokens.specs.Text.{Piece}
use Rattle.surface_spelling.specs.Layout.{keyword, mark, name, number, space, listed, in_parens, in_brackets, pair}

-- a name alone
abbrev pub a_name : List ℕ → List Piece
a_name n = name n ∷ []

-- ---- term = ["-"] prod { ("+" | "-") prod }

-- prod = NUMBER [ "*" NAME ] | NAME. A factor 1 and its "*" are not written before a NAME.
unfoldable pub product : ℕ → Option (List ℕ) → List Piece
product factor None = number factor ∷ []
product factor (Some n) = if factor == 1 then a_name n else number factor ∷ mark (codes "*") ∷ name n ∷ []

-- a minus stands before the part; a factor below 0, which no text has, brings it too
unfoldable pub has_minus : Part → Bool
has_minus p = p.negative || int_lt p.factor (pos 0)

-- ["-"] prod
unfoldable pub first_part : Part → List Piece
first_part p = (if has_minus p then mark (codes "-") ∷ [] else []) ++ product (unsigned_abs p.factor) p.name

-- ("+" | "-") prod
unfoldable pub next_part : Part → List Piece
next_part p = space ∷ (if has_minus p then mark (codes "-") else mark (codes "+")) ∷ space ∷ product (unsigned_abs p.factor) p.name

-- { ("+" | "-") prod }
unfoldable pub more_parts : List Part → List Piece
more_parts [] = []
more_parts (p ∷ ps) = next_part p ++ more_parts ps

-- the sum of these parts; the empty sum is 0
unfoldable pub sum : List Part → List Piece
sum [] = number 0 ∷ []
sum (p ∷ ps) = first_part p ++ more_parts ps

unfoldable pub term : Term → List Piece
term t = sum t.parts

-- ---- binds = "[" names [ ":" limit { "," limit } ] "]"

-- "<=" | "<" | "="
abbrev pub relation_mark : Relation → Piece
relation_mark relation.AtMost = mark (codes "<=")
relation_mark relation.Less = mark (codes "<")
relation_mark relation.Same = mark (codes "=")

-- limit = term ("<=" | "<" | "=") term
unfoldable pub limit : Limit → List Piece
limit l = term l.left ++ space ∷ relation_mark l.relation ∷ space ∷ term l.right

-- [ ":" limit { "," limit } ]
unfoldable pub limits : List Limit → List Piece
limits [] = []
limits (l ∷ ls) = mark (codes ":") ∷ space ∷ listed limit (l ∷ ls)

-- binds
unfoldable pub binds : List (List ℕ) → List Limit → List Piece
binds names ls = in_brackets (listed a_name names ++ limits ls)

-- [ binds ] of a resource, with the space behind it; a list of limits alone, which no text has, is written too
unfoldable pub binds_before : List (List ℕ) → List Limit → List Piece
binds_before [] [] = []
binds_before [] (l ∷ ls) = binds [] (l ∷ ls) ++ space ∷ []
binds_before (n ∷ ns) ls = binds (n ∷ ns) ls ++ space ∷ []

-- [ binds ] of a header, with the space before it
unfoldable pub binds_behind : List (List ℕ) → List Limit → List Piece
binds_behind [] [] = []
binds_behind [] (l ∷ ls) = space ∷ binds [] (l ∷ ls)
binds_behind (n ∷ ns) ls = space ∷ binds (n ∷ ns) ls

-- ---- ref = ["~"] NAME "(" [terms] ")"

unfoldable pub reference : Ref → List Piece
reference r = (if r.dual then mark (codes "~") ∷ [] else []) ++ name r.name ∷ in_parens (listed term r.args)

-- ---- shape = "unit" | "int" "(" term ")" | "end" ref | "(" res "," res ")" | "sum" "(" res "," res { "," res } ")"
-- ---- res = [binds] shape

unfoldable mutual
  pub shape : Shape → List Piece
  shape Unit = keyword (codes "unit") ∷ []
  shape (Int t) = keyword (codes "int") ∷ in_parens (term t)
  shape (End r) = keyword (codes "end") ∷ space ∷ reference r
  shape (Pair' _ a _ b) = pair (boxed_res a) (boxed_res b)
  shape (Sum' _ arms) = keyword (codes "sum") ∷ in_parens (row_of_res arms)

  -- the resource that a box holds
  pub boxed_res : {m : _} → Row_of-Res m → List Piece
  boxed_res end_of-Res = []
  boxed_res (more_of-Res b s rest) = binds_before b.names b.limits ++ shape s

  -- the resources of a row, with commas between them
  pub row_of_res : {m : _} → Row_of-Res m → List Piece
  row_of_res end_of-Res = []
  row_of_res (more_of-Res b s rest) = (binds_before b.names b.limits ++ shape s) ++ res_behind rest

  -- each behind a comma
  pub res_behind : {m : _} → Row_of-Res m → List Piece
  res_behind end_of-Res = []
  res_behind (more_of-Res b s rest) = mark (codes ",") ∷ space ∷ (binds_before b.names b.limits ++ shape s) ++ res_behind rest

unfoldable pub res : Res → List Piece
res r = binds_before r.bound.names r.bound.limits ++ shape r.shape

-- param = NAME ":" shape
unfoldable pub param : Param → List Piece
param p = name p.name ∷ mark (codes ":") ∷ space ∷ shape p.shape

-- ---- value = "(" ")" | "(" value "," value ")" | tag value | term
-- ---- tag = "inl" | "inr" | "#" NUMBER

-- the tag of an arm
unfoldable pub tag : ℕ → List Piece
tag i =
    if i == 0 then keyword (codes "inl") ∷ [] else if i == 1 then keyword (codes "inr") ∷ [] else mark (codes "#") ∷ number i ∷ []

unfoldable mutual
  pub value : Supply → List Piece
  value SupplyUnit = in_parens []
  value (SupplyPair' _ a _ b) = pair (boxed_value a) (boxed_value b)
  value (Arm' i _ a) = tag i ++ space ∷ boxed_value a
  value (SupplySum t) = term t

  -- the value that a box holds
  pub boxed_value : {m : _} → Row_of-Supply m → List Piece
  boxed_value end_of-Supply = []
  boxed_value (more_of-Supply v rest) = value v

-- "(" [values] ")"
unfoldable pub values : List Supply → List Piece
values vs = in_parens (listed value vs)

-- ---- pat = NAME [ "[" names "]" ]

-- [ "[" names "]" ], with the space before it
unfoldable pub names_behind : List (List ℕ) → List Piece
names_behind [] = []
names_behind (n ∷ ns) = space ∷ in_brackets (listed a_name (n ∷ ns))

unfoldable pub pat : Pat → List Piece
pat p = name p.name ∷ names_behind p.names

-- "(" pat "," pat ")"
unfoldable pub two_pats : Pat → Pat → List Piece
two_pats p q = pair (pat p) (pat q)

-- ---- path = "via" NAME

-- `l` or `r`
abbrev pub letter_byte : Letter → ℕ
letter_byte letter.Left = 108
letter_byte letter.Right = 114

-- [path], with the space before it
unfoldable pub path : List Letter → List Piece
path [] = []
path (l ∷ ls) = space ∷ keyword (codes "via") ∷ space ∷ name (map letter_byte (l ∷ ls)) ∷ []

-- ---- cert = "{" [ NUMBER ":" ] [ mention { "," mention } ] "}", where a divisor 1 is not written
-- ---- mention = ["-"] NUMBER "#" NUMBER

unfoldable pub mention : WrittenMention → List Piece
mention m = (if m.negative then mark (codes "-") ∷ [] else []) ++ number m.factor ∷ space ∷ mark (codes "#") ∷ number m.index ∷ []

-- mention { "," mention } behind a divisor
unfoldable pub mentions_behind : List WrittenMention → List Piece
mentions_behind [] = []
mentions_behind (m ∷ ms) = space ∷ listed mention (m ∷ ms)

unfoldable pub cert : WrittenCert → List Piece
cert c =
    mark (codes "{")
    ∷ (if c.divisor == 1 then listed mention c.mentions else number c.divisor ∷ mark (codes ":") ∷ mentions_behind c.mentions)
    ++ mark (codes "}") ∷ []

-- ---- proof = [ "with" "[" [terms] "]" ] [ "by" "[" [ cert { "," cert } ] "]" ], where an empty list is not written

unfoldable pub instances : List Term → List Piece
instances [] = []
instances (t ∷ ts) = space ∷ keyword (codes "with") ∷ space ∷ in_brackets (listed term (t ∷ ts))

unfoldable pub certificates : List WrittenCert → List Piece
certificates [] = []
certificates (c ∷ cs) = space ∷ keyword (codes "by") ∷ space ∷ in_brackets (listed cert (c ∷ cs))

-- with the space before it
unfoldable pub proof : Proof → List Piece
proof p = instances p.instances ++ certificates p.certs
