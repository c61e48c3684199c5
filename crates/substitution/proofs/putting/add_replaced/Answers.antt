use Rattle.std.proofs.Common.{◌+◌, ◌^◌, List, map, flat_map, Option, option_to_list, OnOk, sym, subst, arith}
use Rattle.std.proofs.lemmas.List.{append-nil}
use Rattle.core_language.specs.Names.{Ident}
use Rattle.linear_forms.specs.Terms.{times_of}
use Rattle.linear_forms.specs.Replacing.{replaced_name}
use Rattle.chan_syntax.specs.Reading.{part_of}
use Rattle.substitution.specs.Places.{Token, token_put}
use Rattle.substitution.specs.Sums.{Adds, Meets}
use Rattle.substitution.specs.Likeness.{tokens_put}
use Rattle.substitution.specs.Scopes.{put_in, before_of, after_of}
use Rattle.substitution.proofs.Added.{looser}
use Rattle.substitution.proofs.putting.add_replaced.Goals as goal

pub returns-in-Some-clause-sums : goal.returns-in-Some-clause-sums
returns-in-Some-clause-sums c =
    subst (λ (x : Option Ident). OnOk c.add_named.result (Adds c.args.sums.now c.add_named.new.sums (replaced_name (before_of c.args.scope.now) (after_of c.args.scope.now) (map put_in c.args.put.now) (times_of (part_of c.args.part.now)) x))) (sym c.in-Some.is) c.add_named.ensures.sums

pub returns-in-Some-clause-places : goal.returns-in-Some-clause-places
returns-in-Some-clause-places c =
    subst (λ (x : Option Ident). OnOk c.add_named.result (Meets c.args.sums.now c.add_named.new.sums (flat_map (token_put (before_of c.args.scope.now) (after_of c.args.scope.now) c.args.put.now) (map (λ y. record { name = y; place = c.args.part.now.name_span }) (option_to_list x))))) (sym c.in-Some.is)
    (subst (λ (ts : List Token). OnOk c.add_named.result (Meets c.args.sums.now c.add_named.new.sums ts)) (sym (append-nil (tokens_put c.args.put.now c.args.scope.now c.in-Some.name c.args.part.now.name_span))) c.add_named.ensures.places)

pub returns-in-None-clause-within : goal.returns-in-None-clause-within
returns-in-None-clause-within c = λ size h. looser (size + 2 ^ 126) (size + 2 ^ 185) _ (omega arith) (c.add_number.ensures.within size h)
