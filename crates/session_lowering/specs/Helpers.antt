-- The function that sends a value together with the end at which the receiver goes on.
use Rattle.std.specs.Prelude.{ℕ, ◌+◌, pos, int_le, codes, Bool, true, false, not, ◌&&◌, if◌then◌else◌, List, [], ◌∷◌, ◌++◌, map, flat_map, length, Option, Some, None}
use Rattle.std.specs.List.{list_all}
use Rattle.std.specs.Ordering.{int_eq}
use Rattle.core_language.specs.Names.{Ident}
use Rattle.core_language.specs.Terms as core
use Rattle.linear_forms.specs.NormalTerms.{count_of, bare_of}
use Rattle.linear_forms.specs.Substitution.{terms_of_shape}
use Rattle.narrow_terms.specs.Numbers.{is_narrow, is_narrow_limit, rows_of}
use Rattle.chan_base.specs.declared.spans.Span.{Span}
use Rattle.chan_syntax.specs.declared.linear.Term.{Term}
use Rattle.chan_syntax.specs.declared.linear.Relation.TheVariants as relation
use Rattle.chan_syntax.specs.declared.linear.Limit.{Limit}
use Rattle.chan_syntax.specs.declared.linear.Bound.{Bound}
use Rattle.chan_syntax.specs.declared.resources.Ref.{Ref}
use Rattle.chan_syntax.specs.declared.resources.Shape.{Shape, Unit, Int, End, Pair', Sum', Row_of-Res, end_of-Res, more_of-Res}
use Rattle.chan_syntax.specs.declared.resources.Res.{Res, roll-Res}
use Rattle.chan_syntax.specs.declared.resources.Param.{Param}
use Rattle.chan_syntax.specs.declared.operands.Letter.{Letter}
use Rattle.chan_syntax.specs.declared.operands.Letter.TheVariants as letter
use Rattle.chan_syntax.specs.declared.operands.Supply.{Supply}
use Rattle.chan_syntax.specs.declared.operands.Supply.TheVariants as supply
use Rattle.chan_syntax.specs.declared.operands.WrittenCert.{WrittenCert}
use Rattle.chan_syntax.specs.declared.operands.Proof.{Proof}
use Rattle.chan_syntax.specs.declared.surface_tree.Stmt.TheVariants as stmt
use Rattle.chan_syntax.specs.declared.surface_tree.Last.TheVariants as last
use Rattle.chan_syntax.specs.declared.surface_tree.Block.{Block, roll-Block}
use Rattle.chan_syntax.specs.declared.surface_tree.SurfaceFunc.{SurfaceFunc}
use Rattle.chan_syntax.specs.Reading.{term_of, limit_of, relation_of, shape_of}
use Rattle.session_lowering.specs.MadeNames.{numbered_from}
use Rattle.session_lowering.specs.declared.puts.Put.{Put}
use Rattle.session_lowering.specs.PutTerms.{puts, put_in_parts, normal, number_term, name_term, put_term, put_limit, put_ref}
use Rattle.session_lowering.specs.declared.sources.Source.{Source}
use Rattle.session_lowering.specs.declared.events.Sending.{Sending}
use Rattle.session_lowering.specs.Sends.{Message, Stop, Fork, stop_at, next_stop, stops, last_of, beyond, fork_at, params_at, puts_at, turned_if, helper_name}

-- ---- names that are made, at the statement

abbrev pub at_all : {A : Type 0} → Span → List A → List Span
at_all span names = map (λ _. span) names

abbrev pub names_as_terms : Span → List Ident → List Term
names_as_terms span names = map (λ x. name_term span x span) names

-- ---- along the path, with x.0, x.1, .. as arguments

abbrev pub own_names : List Source → Sending → List Ident
own_names sources s = numbered_from (codes "x") 0 (params_at (stop_at sources s.proto).source)

abbrev pub own_ref : List Source → Sending → Ref
own_ref sources s = record s.proto { args = names_as_terms s.span (own_names sources s) }

abbrev pub own_stop : List Source → Sending → Stop
own_stop sources s = stop_at sources (own_ref sources s)

abbrev pub own_stops : List Source → Sending → List Stop
own_stops sources s = stops sources s.span s.path (own_stop sources s)

abbrev pub own_end : List Source → Sending → Stop
own_end sources s = last_of (own_stop sources s) (own_stops sources s)

-- one more
abbrev pub put_term_more : Span → List Put → Term → Term
put_term_more span ps t = normal span (put_in_parts ps t.parts ++ (number_term span (pos 1)).parts)

-- t <= u, or u + 1 <= t
abbrev pub letter_limit : Span → List Put → Fork → Letter → Limit
letter_limit span ps fork letter.Left = record { left = put_term span ps fork.left; relation = relation.AtMost; right = put_term span ps fork.right }
letter_limit span ps fork letter.Right = record { left = put_term_more span ps fork.right; relation = relation.AtMost; right = put_term span ps fork.left }

-- a limit for each letter
abbrev pub path_limits : List Source → Span → List Letter → Stop → List Limit
path_limits sources span [] stop = []
path_limits sources span (l ∷ ls) stop =
    beyond (fork_at stop.source) (λ fork. letter_limit span (puts_at stop) fork l ∷ path_limits sources span ls (next_stop sources span stop fork l))

-- ---- the message, with y.0, y.1, .. for its binders

abbrev pub sent_names : Message → List Ident
sent_names m = numbered_from (codes "y") 0 m.res.bound.names

abbrev pub sent_puts : List Source → Sending → Message → List Put
sent_puts sources s m = puts m.res.bound.names (names_as_terms s.span (sent_names m)) ++ puts_at (own_end sources s)

-- the binders of a shape and what it holds
unfoldable mutual
  pub binders_of : Shape → ℕ
  binders_of Unit = 0
  binders_of (Int t) = 0
  binders_of (End r) = 0
  binders_of (Pair' m a k b) = binders_in a + binders_in b
  binders_of (Sum' m arms) = binders_in arms

  pub binders_in : {m : _} → Row_of-Res m → ℕ
  binders_in end_of-Res = 0
  binders_in (more_of-Res b x rest) = (length b.names + binders_of x) + binders_in rest

-- binders s.n, s.n+1, .. in place of those that stand there
abbrev pub inside_names : ℕ → Bound → List Ident
inside_names n b = numbered_from (codes "s") n b.names

abbrev pub inside_puts : Span → ℕ → Bound → List Put → List Put
inside_puts span n b ps = puts b.names (names_as_terms span (inside_names n b)) ++ ps

abbrev pub renamed_bound : Span → ℕ → Bound → List Put → Bound
renamed_bound span n b ps = record { names = inside_names n b; names_spans = at_all span b.names; limits = map (put_limit span (inside_puts span n b ps)) b.limits }

-- a shape with the terms put in, whose binders are renamed in the order in which they stand
unfoldable mutual
  pub renamed_shape : Span → ℕ → List Put → Shape → Shape
  renamed_shape span n ps Unit = Unit
  renamed_shape span n ps (Int t) = Int (put_term span ps t)
  renamed_shape span n ps (End r) = End (put_ref span ps r)
  renamed_shape span n ps (Pair' m a k b) = Pair' m (renamed_row span n ps a) k (renamed_row span (n + binders_in a) ps b)
  renamed_shape span n ps (Sum' m arms) = Sum' m (renamed_row span n ps arms)

  pub renamed_row : {m : _} → Span → ℕ → List Put → Row_of-Res m → Row_of-Res m
  renamed_row span n ps end_of-Res = end_of-Res
  renamed_row span n ps (more_of-Res b x rest) =
      more_of-Res (renamed_bound span n b ps) (renamed_shape span (n + length b.names) (inside_puts span n b ps) x)
      (renamed_row span ((n + length b.names) + binders_of x) ps rest)

-- ---- certificates

abbrev pub counts_nothing : core.Term → Option Ident → Bool
counts_nothing t None = true
counts_nothing t (Some x) = int_eq (count_of x t) (pos 0)

-- a constant at most 0
abbrev pub asks_nothing : core.Term → Bool
asks_nothing t = list_all (λ p. counts_nothing t p.name) t && int_le (bare_of t) (pos 0)

abbrev pub rows_of_limits : List Limit → List core.Term
rows_of_limits limits = flat_map (λ l. rows_of (relation_of l.relation) (term_of l.left) (term_of l.right)) limits

-- {1 #i}
abbrev pub hypothesis : Span → ℕ → WrittenCert
hypothesis span i = record {
  divisor = 1;
  divisor_span = None;
  span = span;
  mentions = record { negative = false; factor = 1; factor_span = span; index = i; index_span = span; span = span } ∷ [];
}

-- each hypothesis shows the row that it is, where that asks for a certificate
abbrev pub hypotheses_from : Span → ℕ → List core.Term → List WrittenCert
hypotheses_from span i [] = []
hypotheses_from span i (row ∷ rows) =
    if asks_nothing row then hypotheses_from span (i + 1) rows else (hypothesis span i ∷ hypotheses_from span (i + 1) rows)

-- ---- the function

abbrev pub limits_of : List Source → Sending → Message → List Limit
limits_of sources s m = path_limits sources s.span s.path (own_stop sources s) ++ map (put_limit s.span (sent_puts sources s m)) m.res.bound.limits

abbrev pub binders : List Source → Sending → Message → Bound
binders sources s m =
    let names = own_names sources s ++ sent_names m in
    record { names = names; names_spans = at_all s.span names; limits = limits_of sources s m }

abbrev pub made_param : Span → Ident → Shape → Param
made_param span x shape = record { name = x; name_span = span; shape = shape }

-- d: end G', the other end of the one that goes on
abbrev pub given_end : List Source → Sending → Message → Shape
given_end sources s m = End (turned_if (not (own_end sources s).ref.dual) (put_ref s.span (sent_puts sources s m) m.next))

-- d: end G', c: end E', v: S
abbrev pub params : List Source → Sending → Message → List Param
params sources s m =
    made_param s.span (codes "d") (given_end sources s m)
    ∷ made_param s.span (codes "c") (End (own_ref sources s))
    ∷ made_param s.span (codes "v") (renamed_shape s.span 0 (sent_puts sources s m) m.res.shape) ∷ []

abbrev pub no_bound : Bound
no_bound = record { names = []; names_spans = []; limits = [] }

abbrev pub unit_res : Res
unit_res = roll-Res (record { bound = no_bound; shape = Unit })

abbrev pub no_proof : Proof
no_proof = record { instances = []; certs = [] }

abbrev pub helper_proof : List Source → Sending → Message → Proof
helper_proof sources s m = record {
  instances = names_as_terms s.span (sent_names m);
  certs = hypotheses_from s.span 0 (rows_of_limits (limits_of sources s m));
}

abbrev pub variable : Span → Ident → Supply
variable span x = supply.Sum (name_term span x span)

-- send1 c via p (v, d) with [y.0, ..] by [certificates]; ret ()
abbrev pub helper_block : List Source → Sending → Message → Block
helper_block sources s m = roll-Block (record {
  stmts =
      stmt.Send1 (codes "c") s.span s.path s.path_span (supply.Pair (variable s.span (codes "v")) (variable s.span (codes "d")))
      (helper_proof sources s m) s.span ∷ [];
  last = last.Ret supply.Unit no_proof s.span;
})

-- fn H [x.0, .., y.0, ..: C, f](d: end G', c: end E', v: S) -> unit
abbrev pub helper : List Source → Sending → Message → SurfaceFunc
helper sources s m = record {
  name = helper_name s;
  name_span = s.span;
  bound = binders sources s m;
  params = params sources s m;
  result = unit_res;
  block = helper_block sources s m;
  span = s.span;
}

-- ---- 64 bits

abbrev pub are_narrow : List Term → Bool
are_narrow ts = list_all (λ t. is_narrow (term_of t)) ts

abbrev pub is_narrow_shape : Shape → Bool
is_narrow_shape x = list_all (λ t. is_narrow t.term) (terms_of_shape [] (shape_of x))

-- both terms, and the rows that they make
abbrev pub limit_fits : Limit → Bool
limit_fits l = (is_narrow (term_of l.left) && is_narrow (term_of l.right)) && is_narrow_limit (limit_of l)

-- the terms of the `if` equations on the way
abbrev pub path_terms : List Source → Span → List Letter → Stop → List Term
path_terms sources span [] stop = []
path_terms sources span (l ∷ ls) stop =
    beyond (fork_at stop.source) (λ fork.
    put_term span (puts_at stop) fork.left ∷ put_term span (puts_at stop) fork.right ∷ path_terms sources span ls (next_stop sources span stop fork l))

-- 64 bits hold each number of the helper, and of the ends and the `if` equations on its path
abbrev pub helper_fits : List Source → Sending → Message → Bool
helper_fits sources s m =
    (are_narrow (path_terms sources s.span s.path (own_stop sources s)) && list_all (λ stop. are_narrow stop.ref.args) (own_stops sources s))
    && (list_all limit_fits (limits_of sources s m) && list_all (λ p. is_narrow_shape p.shape) (params sources s m))
