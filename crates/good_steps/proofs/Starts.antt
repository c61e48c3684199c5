-- A configuration with one task and no channel is good.
use Rattle.std.proofs.Common.{◌≡◌, ◌≢◌, ◌≤◌, ◌<◌, true, false, List, [], ◌∷◌, None, refl, arith}
use Rattle.std.specs.FinMap.{get, insert, empty, get-empty}
use Rattle.std.specs.Ordering.{nat_cmp}
use Rattle.std.specs.Cmp.Lexicographic.{slice_cmp}
use Rattle.core_language.specs.Names.{main, child}
use Rattle.core_language.specs.Resources.{Proto}
use Rattle.core_language.specs.Configurations.{Config, Place}
use Rattle.graphs.specs.Graph.{count}
use Rattle.good_configurations.specs.Acts.{Typing}
use Rattle.good_configurations.specs.Good.{TaskGood, Good, forks_at}
use Rattle.good_steps.proofs.Keeping.{by_name}
use Rattle.good_steps.proofs.Forks.{nil_not}

abbrev pub alone : Place → Config
alone place = record { tasks = insert empty main (record { place = place; forks = 0 }); channels = empty; prints = [] }

pub alone_good : (protos : List Proto) (Typed : Typing) (place : Place) → Typed place [] → Good protos Typed (alone place)
alone_good protos Typed place typed = record {
  ends = λ c. record { dual = false; name = []; args = [] };
  uses = [];
  tasks = λ q. by_name empty main (record { place = place; forks = 0 }) (TaskGood Typed [] q) q (λ same. ([], typed, λ h. refl)) (λ apart. rw (get-empty (slice_cmp nat_cmp) q) (λ h. refl));
  channels = λ c. rw (get-empty (slice_cmp nat_cmp) c) (λ h. refl, λ h. refl);
  forest = λ part inside leaf. nothing_in part (inside (λ e. true));
  named_task = λ q k. by_name empty main (record { place = place; forks = 0 }) (λ o. o ≢ None → k < forks_at (get ((alone place).tasks) q)) (child q k) (λ same some. absurd (nil_not q k same)) (λ apart some. absurd (some (get-empty (slice_cmp nat_cmp) (child q k))));
  named_channel = λ q k some. absurd (some (get-empty (slice_cmp nat_cmp) (child q k)));
}
  where
    nothing_in : {X : Type 0} (part : List X) → count (λ e. true) part ≤ 0 → part ≡ []
    nothing_in [] h = refl
    nothing_in (x ∷ part) h = absurd (omega arith)
