use Rattle.std.proofs.Common.{◌≡◌, ℕ, List, [], ◌∷◌, ◌++◌, Option, None, length, sym, ap, ◌∙◌, subst, arith}
use Rattle.core_programs.specs.declared.nodes.Parts.{Parts}
use Rattle.core_programs.specs.Bodies.{program_of, rest}
use Rattle.outline_language.specs.Outlined.{least, faults_of_body}
use Rattle.outline_walk.specs.declared.walking.Later.{Later}
use Rattle.outline_walk.specs.Forms.{Setting}
use Rattle.outline_walk.specs.Refusals.{found}
use Rattle.outline_walk.specs.Walking.{faults_of, Walking}
use Rattle.outline_walk.proofs.Walks.{ends, no_items}
use Rattle.outline_walk.proofs.walking.walk.Goals as goal

pub returns-in-None-pop-clause-first : goal.returns-in-None-pop-clause-first
returns-in-None-pop-clause-first g c =
    let s = g.C.Outlining.setting c.args.outline.now in
    let ctx = g.C.Outlining.context c.args.outline.now in
    let whole = least (found c.args.first.now) (faults_of s ctx (rest s.parts.nodes c.args.start)) in
    let none : length c.walk.later.items ≡ 0 = omega (arith, c.in-None-pop.ensures.cases.0, c.walk.later.ok) in
    let at_end = subst (λ (o : Option ℕ). Walking s whole (found c.walk.first) (g.C.Outlining.context c.walk.outline) (g.C.Outlining.saved c.walk.outline) o c.walk.later.items) c.in-None.is c.walk.invariant.walking in
    let emptied = subst (λ (ls : List Later). Walking s whole (found c.walk.first) (g.C.Outlining.context c.walk.outline) (g.C.Outlining.saved c.walk.outline) None ls) (no_items c.walk.later.items none) at_end in
    ends s whole (found c.walk.first) (g.C.Outlining.context c.walk.outline) (g.C.Outlining.saved c.walk.outline) emptied
    ∙ ap (λ (p : Parts). least (found c.args.first.now) (faults_of_body (program_of p) s.own ctx (rest p.nodes c.args.start))) c.requires.setting

pub walk-preserved : goal.walk-preserved
walk-preserved g c =
    let s = g.C.Outlining.setting c.args.outline.now in
    let whole = least (found c.args.first.now) (faults_of s (g.C.Outlining.context c.args.outline.now) (rest s.parts.nodes c.args.start)) in
    let at_end = subst (λ (o : Option ℕ). Walking s whole (found c.walk.first) (g.C.Outlining.context c.walk.outline) (g.C.Outlining.saved c.walk.outline) o c.walk.later.items) c.in-None.is c.walk.invariant.walking in
    let popped = subst (λ (ls : List Later). Walking s whole (found c.walk.first) (g.C.Outlining.context c.walk.outline) (g.C.Outlining.saved c.walk.outline) None ls) c.in-Some-pop.ensures.items at_end in
    let inside = subst (λ (t : Setting). Walking t whole (found c.walk.first) (g.C.Outlining.context c.walk.outline) (g.C.Outlining.saved c.walk.outline) None (c.pop.new.self.items ++ c.in-Some-pop.next ∷ [])) (sym c.walk.invariant.setting) popped in
    record {
      setting = c.go_on.ensures.setting ∙ c.walk.invariant.setting;
      walking =
          subst (λ (t : Setting). Walking t whole (found c.walk.first) (g.C.Outlining.context c.go_on.new.outline) (g.C.Outlining.saved c.go_on.new.outline) c.in_ok-at-in-Some-pop.at c.go_on.new.later.items) c.walk.invariant.setting
          (c.in_ok-at-in-Some-pop.ensures.walks whole (found c.walk.first) inside);
      placed = c.walk.invariant.placed;
    }
