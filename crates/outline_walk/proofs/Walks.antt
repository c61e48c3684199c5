-- Each step of a walk keeps its first fault, and leaves less to walk.
use Rattle.std.proofs.Common.{◌≡◌, true, false, ℕ, zero, suc, ◌+◌, ◌*◌, ◌<◌, List, [], ◌∷◌, ◌++◌, map, length, drop, Option, Some, None, slice_get, Ok, refl, sym, ap, ◌∙◌, subst, arith, append_assoc, append-nil}
use Rattle.std.proofs.lemmas.Option.{slice_get-map}
use Rattle.std.specs.Prelude.{option_map}
use Rattle.core_language.specs.Programs.{Body}
use Rattle.core_programs.specs.declared.nodes.Node.{Node}
use Rattle.core_programs.specs.declared.nodes.Node.TheVariants as node
use Rattle.core_programs.specs.declared.nodes.Arm.{Arm}
use Rattle.core_programs.specs.declared.nodes.Parts.{Parts}
use Rattle.core_programs.specs.Bodies.{opened, arms_opened, rest}
use Rattle.core_programs.specs.Formed.{nexts}
use Rattle.outline_language.specs.Contexts.{Context}
use Rattle.outline_language.specs.Outlined.{Fault, sooner_of, least}
use Rattle.outline_walk.specs.declared.walking.Later.{Later}
use Rattle.outline_walk.specs.Forms.{Setting, form_at, picked, bodies_after}
use Rattle.outline_walk.specs.Walking.{body_at, faults_of, IsTried, faults_in, faults_from, AreOpen, left_faults, later_faults, Waiting, Walking, sizes, later_size, left_size}
use Rattle.outline_walk.proofs.Arms.{arm_bodies}
use Rattle.outline_walk.proofs.Forms.{meets_faults, meets_open}
use Rattle.outline_walk.proofs.Sizes.{size_after}

pub least-append : (best : Option Fault) (xs ys : List Fault) → least best (xs ++ ys) ≡ least (least best xs) ys
unfolding least
least-append best [] ys = refl
least-append best (x ∷ xs) ys = least-append (sooner_of best x) xs ys

pub least-nil : (best : Option Fault) → least best [] ≡ best
unfolding least
least-nil best = refl

-- ---- a program and its setting

pub opens_in : (s : Setting) (parts : Parts) (n : ℕ) (x : Node) → s.parts ≡ parts → rest parts.nodes n ≡ opened x (rest parts.nodes) → body_at s n ≡ form_at s x
opens_in s parts n x is opens = subst (λ (p : Parts). rest p.nodes n ≡ opened x (rest p.nodes)) (sym is) opens

-- ---- bodies by turns

dropped : {X : Type 0} (xs : List X) (k : ℕ) (x : X) → slice_get xs k ≡ Some x → drop k xs ≡ x ∷ drop (suc k) xs
dropped [] k x is = cc
dropped (y ∷ ys) zero x is = let equal : y ≡ x = cc in ap (λ z. z ∷ ys) equal
dropped (y ∷ ys) (suc k) x is = dropped ys k x is

all_dropped : {X : Type 0} (xs : List X) (k : ℕ) → slice_get xs k ≡ None → drop k xs ≡ []
all_dropped [] zero is = refl
all_dropped [] (suc k) is = refl
all_dropped (y ∷ ys) zero is = cc
all_dropped (y ∷ ys) (suc k) is = all_dropped ys k is

opened_arms : (arms : List Arm) (at : ℕ → Body) → arm_bodies (arms_opened arms at) ≡ map at (map (λ arm. arm.next) arms)
opened_arms [] at = refl
opened_arms (arm ∷ arms) at = ap (λ bs. at arm.next ∷ bs) (opened_arms arms at)

-- the bodies that follow a node are those at its numbers
bodies_at : (x : Node) (at : ℕ → Body) → bodies_after (opened x at) ≡ map at (nexts x)
bodies_at (node.Let name name_at term next span) at = refl
bodies_at (node.Mul name name_at left right next span) at = refl
bodies_at (node.Div name name_at term divisor divisor_at next span) at = refl
bodies_at (node.Rem name name_at term divisor divisor_at next span) at = refl
bodies_at (node.Call pat func func_at values proof next span) at = refl
bodies_at (node.Tail func func_at values proof span) at = refl
bodies_at (node.Fork name name_at proto func func_at values proof next span) at = refl
bodies_at (node.Send1 channel channel_at path path_at value proof next span) at = refl
bodies_at (node.Recv1 pat channel channel_at path path_at proof next span) at = refl
bodies_at (node.Print term next span) at = refl
bodies_at (node.If left right this other span) at = refl
bodies_at (node.Split first second name name_at next span) at = refl
bodies_at (node.Match name name_at arms span) at = opened_arms arms at
bodies_at (node.Absurd proof span) at = refl
bodies_at (node.Ret value proof span) at = refl

module _ (s : Setting) where
  -- ---- nodes that were put off

  no_context : (ls : List Later) (l : Later) → Waiting s [] (ls ++ l ∷ []) → ⊥
  no_context [] l waiting = waiting
  no_context (x ∷ ls) l waiting = waiting

  no_later : (cs : List Context) (c : Context) → Waiting s (cs ++ c ∷ []) [] → ⊥
  no_later [] c waiting = waiting
  no_later (x ∷ cs) c waiting = waiting

  later-push : (cs : List Context) (ls : List Later) (c : Context) (l : Later) → Waiting s cs ls
      → later_faults s (cs ++ c ∷ []) (ls ++ l ∷ []) ≡ left_faults s c l ++ later_faults s cs ls
  later-push [] [] c l waiting = sym (append-nil (left_faults s c l))
  later-push [] (m ∷ ls) c l waiting = absurd waiting
  later-push (d ∷ cs) [] c l waiting = absurd waiting
  later-push (d ∷ cs) (m ∷ ls) c l (within, ready, waiting) =
      ap (λ fs. fs ++ left_faults s d m) (later-push cs ls c l waiting)
      ∙ append_assoc (left_faults s c l) (later_faults s cs ls) (left_faults s d m)

  waiting-push : (cs : List Context) (ls : List Later) (c : Context) (l : Later) → Waiting s cs ls → l.number < length s.parts.nodes → AreOpen c (body_at s l.number)
      → Waiting s (cs ++ c ∷ []) (ls ++ l ∷ [])
  waiting-push [] [] c l waiting within ready = (within, ready, tt)
  waiting-push [] (m ∷ ls) c l waiting within ready = absurd waiting
  waiting-push (d ∷ cs) [] c l waiting within ready = absurd waiting
  waiting-push (d ∷ cs) (m ∷ ls) c l (lt, is_ready, waiting) within ready = (lt, is_ready, waiting-push cs ls c l waiting within ready)

  waiting-pop : (cs : List Context) (ls : List Later) (c : Context) (l : Later) → Waiting s (cs ++ c ∷ []) (ls ++ l ∷ [])
      → (Waiting s cs ls × (l.number < length s.parts.nodes)) × AreOpen c (body_at s l.number)
  waiting-pop [] [] c l (within, ready, waiting) = ((tt, within), ready)
  waiting-pop [] (m ∷ ls) c l (within, ready, waiting) = absurd (no_context ls l waiting)
  waiting-pop (d ∷ cs) [] c l (within, ready, waiting) = absurd (no_later cs c waiting)
  waiting-pop (d ∷ cs) (m ∷ ls) c l (lt, is_ready, waiting) =
      let ((others, within), ready) = waiting-pop cs ls c l waiting in
      (((lt, is_ready, others), within), ready)

  pub some_context : (saved : List Context) (ls : List Later) (l : Later) → Waiting s saved (ls ++ l ∷ []) → 0 < length saved
  some_context [] ls l waiting = absurd (no_context ls l waiting)
  some_context (c ∷ cs) ls l waiting = omega arith

  size-push : (ls : List Later) (l : Later) → later_size s (ls ++ l ∷ []) ≡ (1 + 3 * sizes (drop l.turn (bodies_after (body_at s l.number)))) + later_size s ls
  size-push [] l = refl
  size-push (x ∷ ls) l = omega (arith, size-push ls l)

  -- ---- the bodies of a node

  at_turn : (n k : ℕ) (x : Node) → body_at s n ≡ form_at s x → slice_get (bodies_after (body_at s n)) k ≡ option_map (rest s.parts.nodes) (slice_get (nexts x) k)
  at_turn n k x opens =
      ap (λ b. slice_get (bodies_after b) k) opens
      ∙ ap (λ bs. slice_get bs k) (bodies_at x (rest s.parts.nodes))
      ∙ slice_get-map (rest s.parts.nodes) (nexts x) k

  body_there : (n k : ℕ) (x : Node) (m : ℕ) → body_at s n ≡ form_at s x → slice_get (nexts x) k ≡ Some m → slice_get (bodies_after (body_at s n)) k ≡ Some (body_at s m)
  body_there n k x m opens follows = at_turn n k x opens ∙ ap (option_map (rest s.parts.nodes)) follows

  pub waits : (saved cs : List Context) (c : Context) (ls : List Later) (l : Later) → Waiting s saved (ls ++ l ∷ []) → saved ≡ cs ++ c ∷ []
      → (Waiting s cs ls × (l.number < length s.parts.nodes)) × AreOpen c (body_at s l.number)
  waits saved cs c ls l waiting back = waiting-pop cs ls c l (subst (λ ss. Waiting s ss (ls ++ l ∷ [])) back waiting)

  -- the context that is picked is there
  pub opens_next : (c : Context) (l : Later) (x : Node) (m : ℕ) → AreOpen c (body_at s l.number) → body_at s l.number ≡ form_at s x → slice_get (nexts x) l.turn ≡ Some m
      → (after : Context) × (picked c (form_at s x) l.turn ≡ Ok after)
  opens_next c l x m are_open opens follows =
      subst (λ b. (after : Context) × (picked c b l.turn ≡ Ok after)) opens (are_open l.turn (body_at s m) (body_there l.number l.turn x m opens follows))

  -- ---- how much is left

  pub size_met : (n : ℕ) (later : List Later) → left_size s None (later ++ record { number = n; turn = 0 } ∷ []) < left_size s (Some n) later
  size_met n later = omega (arith, size-push later (record { number = n; turn = 0 }), size_after (body_at s n))

  pub size_failed : (n : ℕ) (later : List Later) → left_size s None later < left_size s (Some n) later
  size_failed n later = omega (arith, size_after (body_at s n))

  pub size_goes : (ls : List Later) (l : Later) (x : Node) (m turn : ℕ) → body_at s l.number ≡ form_at s x → slice_get (nexts x) l.turn ≡ Some m → turn ≡ suc l.turn
      → left_size s (Some m) (ls ++ record { number = l.number; turn = turn } ∷ []) < left_size s None (ls ++ l ∷ [])
  size_goes ls l x m turn opens follows next =
      let parts = ap sizes (dropped (bodies_after (body_at s l.number)) l.turn (body_at s m) (body_there l.number l.turn x m opens follows)) in
      let later = ap (λ k. sizes (drop k (bodies_after (body_at s l.number)))) next in
      omega (arith, size-push ls (record { number = l.number; turn = turn }), size-push ls l, parts, later, size_after (body_at s m))

  pub size_leaves : (ls : List Later) (l : Later) → left_size s None ls < left_size s None (ls ++ l ∷ [])
  size_leaves ls l = omega (arith, size-push ls l)

  module _ (whole best : Option Fault) (ctx : Context) (saved : List Context) where
    -- ---- a node is walked over

    module _ (n : ℕ) (x : Node) (later : List Later) (walk : Walking s whole best ctx saved (Some n) later) (opens : body_at s n ≡ form_at s x) where
      -- its rule is met, and the bodies that follow it are put off
      pub enters : (after : Option Fault) (new : Context) → IsTried true s ctx new (form_at s x) best after
          → Walking s whole after new (saved ++ new ∷ []) None (later ++ record { number = n; turn = 0 } ∷ [])
      enters after new (none, met) = record {
        same =
            ap (λ b. least b (later_faults s (saved ++ new ∷ []) (later ++ record { number = n; turn = 0 } ∷ []))) none
            ∙ ap (least best) (later-push saved later new (record { number = n; turn = 0 }) walk.waiting)
            ∙ ap (λ fs. least best (fs ++ later_faults s saved later)) (sym faults)
            ∙ walk.same;
        within = tt;
        waiting = waiting-push saved later new (record { number = n; turn = 0 }) walk.waiting walk.within (subst (AreOpen new) (sym opens) (meets_open s ctx new (form_at s x) met));
      }
        where
          faults : faults_of s ctx (body_at s n) ≡ left_faults s new (record { number = n; turn = 0 })
          faults =
              ap (faults_of s ctx) opens
              ∙ meets_faults s ctx new (form_at s x) met
              ∙ ap (λ b. faults_from s (picked new b) 0 (bodies_after b)) (sym opens)

      -- its fault is taken
      pub stops : (after : Option Fault) (new : Context) → IsTried false s ctx new (form_at s x) best after → Walking s whole after new saved None later
      stops after new is = record {
        same =
            ap (λ b. least b (later_faults s saved later)) is
            ∙ sym (least-append best (faults_of s ctx (form_at s x)) (later_faults s saved later))
            ∙ ap (λ b. least best (faults_of s ctx b ++ later_faults s saved later)) (sym opens)
            ∙ walk.same;
        within = tt;
        waiting = walk.waiting;
      }

    -- ---- a node that was put off comes next

    module _ (cs : List Context) (c : Context) (ls : List Later) (l : Later) (x : Node) (walk : Walking s whole best ctx saved None (ls ++ l ∷ []))
        (back : saved ≡ cs ++ c ∷ []) (opens : body_at s l.number ≡ form_at s x) where
      at_hand : (Waiting s cs ls × (l.number < length s.parts.nodes)) × AreOpen c (body_at s l.number)
      at_hand = waits saved cs c ls l walk.waiting back

      whole_so : least best (left_faults s c l ++ later_faults s cs ls) ≡ whole
      whole_so =
          ap (least best) (sym (later-push cs ls c l at_hand.0.0))
          ∙ ap (λ ss. least best (later_faults s ss (ls ++ l ∷ []))) (sym back)
          ∙ walk.same

      -- its next body
      pub goes : (m : ℕ) (after : Context) (turn : ℕ) → slice_get (nexts x) l.turn ≡ Some m → m < length s.parts.nodes → picked c (form_at s x) l.turn ≡ Ok after → turn ≡ suc l.turn
          → Walking s whole best after (cs ++ c ∷ []) (Some m) (ls ++ record { number = l.number; turn = turn } ∷ [])
      goes m after turn follows below picks next = record {
        same =
            ap (λ fs. least best (faults_of s after (body_at s m) ++ fs)) (later-push cs ls c (record { number = l.number; turn = turn }) at_hand.0.0)
            ∙ ap (λ k. least best (faults_of s after (body_at s m) ++ (left_faults s c (record { number = l.number; turn = k }) ++ later_faults s cs ls))) next
            ∙ sym (ap (least best) (append_assoc (faults_of s after (body_at s m)) (left_faults s c (record { number = l.number; turn = suc l.turn })) (later_faults s cs ls)))
            ∙ ap (λ fs. least best (fs ++ later_faults s cs ls)) (sym first_of_left)
            ∙ whole_so;
        within = below;
        waiting = waiting-push cs ls c (record { number = l.number; turn = turn }) at_hand.0.0 at_hand.0.1 at_hand.1;
      }
        where
          first_of_left : left_faults s c l ≡ faults_of s after (body_at s m) ++ left_faults s c (record { number = l.number; turn = suc l.turn })
          first_of_left =
              ap (faults_from s (picked c (body_at s l.number)) l.turn) (dropped (bodies_after (body_at s l.number)) l.turn (body_at s m) (body_there l.number l.turn x m opens follows))
              ∙ ap (λ r. faults_in s r (body_at s m) ++ left_faults s c (record { number = l.number; turn = suc l.turn })) (ap (λ b. picked c b l.turn) opens ∙ picks)

      -- none is left
      pub leaves : slice_get (nexts x) l.turn ≡ None → Walking s whole best c cs None ls
      leaves none = record {
        same = ap (λ fs. least best (fs ++ later_faults s cs ls)) (sym empty) ∙ whole_so;
        within = tt;
        waiting = at_hand.0.0;
      }
        where
          empty : left_faults s c l ≡ []
          empty =
              ap (faults_from s (picked c (body_at s l.number)) l.turn)
              (all_dropped (bodies_after (body_at s l.number)) l.turn (at_turn l.number l.turn x opens ∙ ap (option_map (rest s.parts.nodes)) none))

    -- nothing is left
    pub ends : Walking s whole best ctx saved None [] → best ≡ whole
    ends walk = by_cases saved walk.waiting walk.same
      where
        by_cases : (cs : List Context) → Waiting s cs [] → least best (later_faults s cs []) ≡ whole → best ≡ whole
        by_cases [] waiting same = sym (least-nil best) ∙ same
        by_cases (c ∷ cs) waiting same = absurd waiting

pub no_items : (ls : List Later) → length ls ≡ 0 → ls ≡ []
no_items [] is = refl
no_items (l ∷ ls) is = absurd (omega (arith, is))
