-- What a step makes of a task in hand, and what all hands have.
use Rattle.std.specs.Prelude.{◌≡◌, ℕ, List, ◌∷◌, ◌++◌, ◌<◌, []}
use Rattle.worker_waves.specs.declared.bench.Moved as moved
use Rattle.worker_waves.specs.declared.bench.Moved.TheVariants.{Goes, Offers, Home, Keeps, NoCell, Stopped}

-- idle and holds of the hand after, how many steps a load may make, the kept loads, the load before, and the answer
abbrev pub Moves : {L : Type 0} → (List L → Type 0) → (List L → L → Type 0) → (L → ℕ) → List L → L → moved.Moved L → Type 0
Moves idle holds left kept load (Goes next) = holds kept next × (left next < left load)
Moves idle holds left kept load (Offers next number) = holds kept next × (left next < left load)
Moves idle holds left kept load Home = idle kept
Moves idle holds left kept load (Keeps ended) = idle (kept ++ ended ∷ [])
Moves idle holds left kept load (NoCell number) = idle kept
Moves idle holds left kept load (Stopped same) = Unit {0}

-- each of the hands has nothing in hand but the loads that it keeps, and these are all kept loads
abbrev pub AreIdle : {H L : Type 0} → (H → List L → Type 0) → List H → List L → Type 0
AreIdle idle [] kept = kept ≡ []
AreIdle {H} {L} idle (h ∷ hs) kept = (mine others : List L) × idle h mine × (kept ≡ mine ++ others) × AreIdle idle hs others
