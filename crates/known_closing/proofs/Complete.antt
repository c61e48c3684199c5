-- All loads and parcels of a run's cells make complete lists.
use Rattle.std.proofs.Common.{◌≡◌, ◌⊎◌, inl, inr, ⊎_elim, ℕ, List, [], ◌∷◌, map, refl, sym, ap, subst, ◌∙◌}
use Rattle.core_language.specs.Names.{Name, main}
use Rattle.core_programs.specs.declared.nodes.Parts.{Parts}
use Rattle.core_programs.specs.Bodies.{program_of}
use Rattle.cell_rules.specs.Lists.{In}
use Rattle.hand_states.specs.Hands.{AreAll}
use Rattle.gathered_runs.specs.Complete.{AreComplete}
use Rattle.gathered_runs.specs.Closing.{Load, Parcel, HasTaken, IsNumbered, AreClosed}
use Rattle.gathered_runs.proofs.Closing.{closed_are_complete}
use Rattle.known_loads.specs.declared.states.State.{State}
use Rattle.known_loads.specs.declared.letters.Letter.{Letter}
use Rattle.known_loads.specs.Holding.{Holds}
use Rattle.known_loads.specs.Meaning.{forks, sends, receives, meanings, numbered, numbers}
use Rattle.known_loads.specs.Reading.{known_of, parcel_as}
use Rattle.known_closing.specs.Closing.{ClosesIn}
use Rattle.known_closing.proofs.Members.{across, back, in_map, from_map, map_map}
use Rattle.known_closing.proofs.Telling.{tells_fork, tells_send, tells_receive}

abbrev load_of : Parts × State → Load
load_of k = record { task = known_of k; number = k.1.cell.0; forked = numbers (forks k.1); sent = numbers (sends k.1); received = numbers (receives k.1) }

abbrev carried : Parts × Letter → Parcel
carried q = record { parcel = parcel_as q; number = q.1.channel.cell.0 }

module _ (program : Parts) (limit : ℕ) (made : List (ℕ × Name)) (root : ℕ) (loads : List (Parts × State)) (parcels : List (Parts × Letter))
    (all : AreAll meanings (program, limit) made loads parcels) (has_main : In (root, main) made) (known : (k : Parts × State) → In k loads → Holds k) where
  numbered_so : (k : Parts × State) → In k loads → IsNumbered all.name (load_of k)
  numbered_so k h = record {
    own = all.named k h (k.1.cell.0, k.1.task.name) (inl refl);
    forks = λ c shown. let (m, forked, mentioned) = tells_fork k c shown in (m, across m (numbers (forks k.1)) forked, all.named k h (m, c) mentioned);
    sends = λ c shown. let (m, sent, mentioned) = tells_send k c shown in (m, across m (numbers (sends k.1)) sent, all.named k h (m, c) mentioned);
    receives = λ m received. let (c, mentioned, taken) = tells_receive k (known k h) m (back m (numbers (receives k.1)) received) in
        subst (λ (z : Name). HasTaken (known_of k) z) (sym (all.named k h (m, c) mentioned)) taken;
  }

  closed : AreClosed (program_of program) limit all.name (map load_of loads) (map carried parcels)
  closed = record {
    loads_of_run = λ l h. let (k, there, is) = from_map load_of l loads h in
        subst (λ (z : Load). (z.task.program ≡ program_of program) × (z.task.limit ≡ limit)) (sym is) (ap (λ (p : Parts × ℕ). program_of p.0) (all.program k there), ap (λ (p : Parts × ℕ). p.1) (all.program k there));
    parcels_of_run = λ l h. let (q, there, is) = from_map carried l parcels h in
        subst (λ (z : Parcel). (z.parcel.program ≡ program_of program) × (z.parcel.limit ≡ limit)) (sym is) (ap (λ (p : Parts × ℕ). program_of p.0) (all.origin q there), ap (λ (p : Parts × ℕ). p.1) (all.origin q there));
    numbered = λ l h. let (k, there, is) = from_map load_of l loads h in subst (λ (z : Load). IsNumbered all.name z) (sym is) (numbered_so k there);
    named = λ l h. let (q, there, is) = from_map carried l parcels h in
        subst (λ (z : Parcel). all.name z.number ≡ z.parcel.channel) (sym is) (all.told q there (numbered q.1.channel) (inl refl));
    has_main =
        let begun = all.begun (root, main) has_main in
        let (k, there, is) = begun.1 in
        (load_of k, in_map load_of k loads there, sym (all.named k there (k.1.cell.0, k.1.task.name) (inl refl)) ∙ ap all.name is ∙ begun.0);
    has_forked = λ l h m g. let (k, there, is) = from_map load_of l loads h in
        let (o, theirs, number) = all.forked k there m (subst (λ (ms : List ℕ). In m ms) (ap (λ (z : Load). z.forked) is) (back m l.forked g)) in
        (load_of o, in_map load_of o loads theirs, number);
    has_sent = λ l h m g. let (k, there, is) = from_map load_of l loads h in
        ⊎_elim (λ a. let (q, theirs, number) = a in inl (carried q, in_map carried q parcels theirs, number))
        (λ a. let (o, theirs, received) = a in inr (load_of o, in_map load_of o loads theirs, across m (numbers (receives o.1)) received))
        (all.sent k there m (subst (λ (ms : List ℕ). In m ms) (ap (λ (z : Load). z.sent) is) (back m l.sent g)));
  }

  complete : AreComplete (program_of program) limit (map known_of loads) (map parcel_as parcels)
  complete = subst (λ ts. AreComplete (program_of program) limit ts (map parcel_as parcels)) (map_map load_of (λ (l : Load). l.task) loads)
      (subst (λ qs. AreComplete (program_of program) limit (map (λ (l : Load). l.task) (map load_of loads)) qs) (map_map carried (λ (q : Parcel). q.parcel) parcels)
      (closed_are_complete (program_of program) limit all.name (map load_of loads) (map carried parcels) closed))

pub closes : ClosesIn
closes program limit made root loads parcels all has_main known = complete program limit made root loads parcels all has_main known
