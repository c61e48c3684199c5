use Rattle.std.proofs.Common.{rules, ℕ, ◌≡◌, ◌≢◌, subst, ◌∙◌}
use Rattle.cell_rules.specs.declared.view.View.{View}
use Rattle.cell_rules.specs.Words.{cell, task_at, chan_at, RUNNING, EMPTY, FULL, PARKED}
use Rattle.cell_rules.specs.Plays.{noted, settling, seeing, parking, reclaiming}
use Rattle.one_shot_word.specs.Calls.{Rests}
use Rattle.one_shot_word.specs.Meaning.{means}
use mathlib.Core.Logic.{dite}
use native.Mathlib.Decide.{ℕ_discrete}
use Rattle.one_shot_word.proofs.cells.Cells.rest_at.Goals as goal

pub returns-then-found-empty-clause-ok : goal.returns-then-found-empty-clause-ok
returns-then-found-empty-clause-ok g c =
    let l = g.L.Load in
    let p = g.P.Parcel in
    let x = means l.meaning p.meaning in
    let n : ℕ = c.args.self.now.table.shared.key.cells in
    let v : View g.row.L.Denot (g.row.A.Denot × ℕ) = c.args.hand.now.seat.me.0 in
    let m : ℕ = c.args.number in
    let o : ℕ = c.number-own.result.0 in
    let load : g.row.L.Denot = c.args.load in
    let u : View g.row.L.Denot (g.row.A.Denot × ℕ) = c.rest.new.seat.me.0 in
    let same : o ≡ l.meaning.number load = c.number-own.ensures in
    let slots : c.rest.new.seat.me.1 ≡ c.args.hand.now.seat.me.1 = c.rest.ensures.me.1 in
    let found : ℕ = c.park_step-found.result in
    let rests : Rests n (l.meaning.number load) load v u = subst (λ z. Rests n z load v u) same c.rest.ensures.me.0 in
    let hit : found ≡ EMPTY m = search rules in
    (u, rests, c.park_step-found.ensures.parked hit ∙ (λ q. (noted (chan_at (cell n m)) (hit q) (PARKED (same q)) (parking (same q) u), (slots ∙ c.requires.hand.1) q)))

pub bring_back-load-requires-clause-live : goal.bring_back-load-requires-clause-live
bring_back-load-requires-clause-live g c =
    let l = g.L.Load in
    let p = g.P.Parcel in
    let x = means l.meaning p.meaning in
    let n : ℕ = c.args.self.now.table.shared.key.cells in
    let v : View g.row.L.Denot (g.row.A.Denot × ℕ) = c.args.hand.now.seat.me.0 in
    let m : ℕ = c.args.number in
    let o : ℕ = c.number-own.result.0 in
    let load : g.row.L.Denot = c.args.load in
    let u : View g.row.L.Denot (g.row.A.Denot × ℕ) = c.rest.new.seat.me.0 in
    let same : o ≡ l.meaning.number load = c.number-own.ensures in
    let slots : c.rest.new.seat.me.1 ≡ c.args.hand.now.seat.me.1 = c.rest.ensures.me.1 in
    let found : ℕ = c.park_step-found.result in
    let miss : found ≢ EMPTY m = search rules in
    let seen : found ≡ FULL m → c.park_step-found.new.seat.me ≡ (noted (chan_at (cell n m)) (FULL m) (FULL m) (seeing m u), c.args.hand.now.seat.me.1) = λ full. c.park_step-found.ensures.full full ∙ (λ q. (noted (chan_at (cell n m)) (full q) (full q) (seeing m u), slots q)) in
    let turned : found ≢ FULL m → c.park_step-found.new.seat.me ≡ (noted (chan_at (cell n m)) found found u, c.args.hand.now.seat.me.1) = λ other. c.park_step-found.ensures.missed miss other ∙ (λ q. (noted (chan_at (cell n m)) found found u, slots q)) in
    dite (ℕ_discrete found (FULL m)) (λ full. rw (seen full) c.rest.ensures.live) (λ other. rw (turned other) c.rest.ensures.live)

pub bring_back-load-requires-clause-parking : goal.bring_back-load-requires-clause-parking
bring_back-load-requires-clause-parking g c =
    let l = g.L.Load in
    let p = g.P.Parcel in
    let x = means l.meaning p.meaning in
    let n : ℕ = c.args.self.now.table.shared.key.cells in
    let v : View g.row.L.Denot (g.row.A.Denot × ℕ) = c.args.hand.now.seat.me.0 in
    let m : ℕ = c.args.number in
    let o : ℕ = c.number-own.result.0 in
    let load : g.row.L.Denot = c.args.load in
    let u : View g.row.L.Denot (g.row.A.Denot × ℕ) = c.rest.new.seat.me.0 in
    let same : o ≡ l.meaning.number load = c.number-own.ensures in
    let slots : c.rest.new.seat.me.1 ≡ c.args.hand.now.seat.me.1 = c.rest.ensures.me.1 in
    let found : ℕ = c.park_step-found.result in
    let miss : found ≢ EMPTY m = search rules in
    let seen : found ≡ FULL m → c.park_step-found.new.seat.me ≡ (noted (chan_at (cell n m)) (FULL m) (FULL m) (seeing m u), c.args.hand.now.seat.me.1) = λ full. c.park_step-found.ensures.full full ∙ (λ q. (noted (chan_at (cell n m)) (full q) (full q) (seeing m u), slots q)) in
    let turned : found ≢ FULL m → c.park_step-found.new.seat.me ≡ (noted (chan_at (cell n m)) found found u, c.args.hand.now.seat.me.1) = λ other. c.park_step-found.ensures.missed miss other ∙ (λ q. (noted (chan_at (cell n m)) found found u, slots q)) in
    dite (ℕ_discrete found (FULL m)) (λ full. rw (seen full) (c.rest.ensures.waits.0, (load, c.rest.ensures.waits.1))) (λ other. rw (turned other) (c.rest.ensures.waits.0, (load, c.rest.ensures.waits.1)))

pub returns-clause-back : goal.returns-clause-back
returns-clause-back g c =
    let l = g.L.Load in
    let p = g.P.Parcel in
    let x = means l.meaning p.meaning in
    let n : ℕ = c.args.self.now.table.shared.key.cells in
    let v : View g.row.L.Denot (g.row.A.Denot × ℕ) = c.args.hand.now.seat.me.0 in
    let m : ℕ = c.args.number in
    let o : ℕ = c.number-own.result.0 in
    let load : g.row.L.Denot = c.args.load in
    let u : View g.row.L.Denot (g.row.A.Denot × ℕ) = c.rest.new.seat.me.0 in
    let same : o ≡ l.meaning.number load = c.number-own.ensures in
    let slots : c.rest.new.seat.me.1 ≡ c.args.hand.now.seat.me.1 = c.rest.ensures.me.1 in
    let found : ℕ = c.park_step-found.result in
    let miss : found ≢ EMPTY m = search rules in
    let seen : found ≡ FULL m → c.park_step-found.new.seat.me ≡ (noted (chan_at (cell n m)) (FULL m) (FULL m) (seeing m u), c.args.hand.now.seat.me.1) = λ full. c.park_step-found.ensures.full full ∙ (λ q. (noted (chan_at (cell n m)) (full q) (full q) (seeing m u), slots q)) in
    let turned : found ≢ FULL m → c.park_step-found.new.seat.me ≡ (noted (chan_at (cell n m)) found found u, c.args.hand.now.seat.me.1) = λ other. c.park_step-found.ensures.missed miss other ∙ (λ q. (noted (chan_at (cell n m)) found found u, slots q)) in
    (dite (ℕ_discrete found (FULL m)) (λ full. (c.bring_back-load.ensures.back load (rw (seen full) c.rest.ensures.waits.1)).0) (λ other. (c.bring_back-load.ensures.back load (rw (turned other) c.rest.ensures.waits.1)).0), miss)

pub returns-clause-full : goal.returns-clause-full
returns-clause-full g c = λ full.
    let l = g.L.Load in
    let p = g.P.Parcel in
    let x = means l.meaning p.meaning in
    let n : ℕ = c.args.self.now.table.shared.key.cells in
    let v : View g.row.L.Denot (g.row.A.Denot × ℕ) = c.args.hand.now.seat.me.0 in
    let m : ℕ = c.args.number in
    let o : ℕ = c.number-own.result.0 in
    let load : g.row.L.Denot = c.args.load in
    let u : View g.row.L.Denot (g.row.A.Denot × ℕ) = c.rest.new.seat.me.0 in
    let same : o ≡ l.meaning.number load = c.number-own.ensures in
    let slots : c.rest.new.seat.me.1 ≡ c.args.hand.now.seat.me.1 = c.rest.ensures.me.1 in
    let found : ℕ = c.park_step-found.result in
    let rests : Rests n (l.meaning.number load) load v u = subst (λ z. Rests n z load v u) same c.rest.ensures.me.0 in
    let miss : found ≢ EMPTY m = search rules in
    let seen : found ≡ FULL m → c.park_step-found.new.seat.me ≡ (noted (chan_at (cell n m)) (FULL m) (FULL m) (seeing m u), c.args.hand.now.seat.me.1) = λ full. c.park_step-found.ensures.full full ∙ (λ q. (noted (chan_at (cell n m)) (full q) (full q) (seeing m u), slots q)) in
    let turned : found ≢ FULL m → c.park_step-found.new.seat.me ≡ (noted (chan_at (cell n m)) found found u, c.args.hand.now.seat.me.1) = λ other. c.park_step-found.ensures.missed miss other ∙ (λ q. (noted (chan_at (cell n m)) found found u, slots q)) in
    let t : (c.bring_back-load.result ≡ load) × ((a b : ℕ) × (c.bring_back-load.new.seat.me ≡ (noted (task_at (cell n o)) b b (settling o (noted (task_at (cell n o)) a (RUNNING o) (reclaiming x o load (noted (chan_at (cell n m)) (FULL m) (FULL m) (seeing m u))))), c.args.hand.now.seat.me.1))) = rw (seen full) at (c.bring_back-load.ensures.back load (rw (seen full) c.rest.ensures.waits.1)) in
    let home : noted (task_at (cell n o)) t.1.1 t.1.1 (settling o (noted (task_at (cell n o)) t.1.0 (RUNNING o) (reclaiming x o load (noted (chan_at (cell n m)) (FULL m) (FULL m) (seeing m u))))) ≡ noted (task_at (cell n (l.meaning.number load))) t.1.1 t.1.1 (settling (l.meaning.number load) (noted (task_at (cell n (l.meaning.number load))) t.1.0 (RUNNING (l.meaning.number load)) (reclaiming x (l.meaning.number load) load (noted (chan_at (cell n m)) (FULL m) (FULL m) (seeing m u))))) = λ q. noted (task_at (cell n (same q))) t.1.1 t.1.1 (settling (same q) (noted (task_at (cell n (same q))) t.1.0 (RUNNING (same q)) (reclaiming x (same q) load (noted (chan_at (cell n m)) (FULL m) (FULL m) (seeing m u))))) in (
      noted (task_at (cell n o)) t.1.1 t.1.1 (settling o (noted (task_at (cell n o)) t.1.0 (RUNNING o) (reclaiming x o load (noted (chan_at (cell n m)) (FULL m) (FULL m) (seeing m u))))),
      (u, rests, (t.1.0, t.1.1, home)),
      t.1.2 ∙ (λ q. (noted (task_at (cell n o)) t.1.1 t.1.1 (settling o (noted (task_at (cell n o)) t.1.0 (RUNNING o) (reclaiming x o load (noted (chan_at (cell n m)) (FULL m) (FULL m) (seeing m u))))), c.requires.hand.1 q)),
    )

pub returns-clause-other : goal.returns-clause-other
returns-clause-other g c = λ other.
    let l = g.L.Load in
    let p = g.P.Parcel in
    let x = means l.meaning p.meaning in
    let n : ℕ = c.args.self.now.table.shared.key.cells in
    let v : View g.row.L.Denot (g.row.A.Denot × ℕ) = c.args.hand.now.seat.me.0 in
    let m : ℕ = c.args.number in
    let o : ℕ = c.number-own.result.0 in
    let load : g.row.L.Denot = c.args.load in
    let u : View g.row.L.Denot (g.row.A.Denot × ℕ) = c.rest.new.seat.me.0 in
    let same : o ≡ l.meaning.number load = c.number-own.ensures in
    let slots : c.rest.new.seat.me.1 ≡ c.args.hand.now.seat.me.1 = c.rest.ensures.me.1 in
    let found : ℕ = c.park_step-found.result in
    let rests : Rests n (l.meaning.number load) load v u = subst (λ z. Rests n z load v u) same c.rest.ensures.me.0 in
    let miss : found ≢ EMPTY m = search rules in
    let seen : found ≡ FULL m → c.park_step-found.new.seat.me ≡ (noted (chan_at (cell n m)) (FULL m) (FULL m) (seeing m u), c.args.hand.now.seat.me.1) = λ full. c.park_step-found.ensures.full full ∙ (λ q. (noted (chan_at (cell n m)) (full q) (full q) (seeing m u), slots q)) in
    let turned : found ≢ FULL m → c.park_step-found.new.seat.me ≡ (noted (chan_at (cell n m)) found found u, c.args.hand.now.seat.me.1) = λ other. c.park_step-found.ensures.missed miss other ∙ (λ q. (noted (chan_at (cell n m)) found found u, slots q)) in
    let t : (c.bring_back-load.result ≡ load) × ((a b : ℕ) × (c.bring_back-load.new.seat.me ≡ (noted (task_at (cell n o)) b b (settling o (noted (task_at (cell n o)) a (RUNNING o) (reclaiming x o load (noted (chan_at (cell n m)) found found u)))), c.args.hand.now.seat.me.1))) = rw (turned other) at (c.bring_back-load.ensures.back load (rw (turned other) c.rest.ensures.waits.1)) in
    let home : noted (task_at (cell n o)) t.1.1 t.1.1 (settling o (noted (task_at (cell n o)) t.1.0 (RUNNING o) (reclaiming x o load (noted (chan_at (cell n m)) found found u)))) ≡ noted (task_at (cell n (l.meaning.number load))) t.1.1 t.1.1 (settling (l.meaning.number load) (noted (task_at (cell n (l.meaning.number load))) t.1.0 (RUNNING (l.meaning.number load)) (reclaiming x (l.meaning.number load) load (noted (chan_at (cell n m)) found found u)))) = λ q. noted (task_at (cell n (same q))) t.1.1 t.1.1 (settling (same q) (noted (task_at (cell n (same q))) t.1.0 (RUNNING (same q)) (reclaiming x (same q) load (noted (chan_at (cell n m)) found found u)))) in (
      noted (task_at (cell n o)) t.1.1 t.1.1 (settling o (noted (task_at (cell n o)) t.1.0 (RUNNING o) (reclaiming x o load (noted (chan_at (cell n m)) found found u)))),
      (u, rests, (t.1.0, t.1.1, home)),
      t.1.2 ∙ (λ q. (noted (task_at (cell n o)) t.1.1 t.1.1 (settling o (noted (task_at (cell n o)) t.1.0 (RUNNING o) (reclaiming x o load (noted (chan_at (cell n m)) found found u)))), c.requires.hand.1 q)),
    )
