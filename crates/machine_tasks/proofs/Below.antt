-- What becomes of a place when a frame below the top one is written, and when frames come and go.
use Rattle.std.proofs.Common.{◌≡◌, ℕ, suc, ◌+◌, ◌-◌, ◌<◌, ◌≤◌, List, [], ◌∷◌, ◌++◌, map, reverse, set, get_or, length, Option, Some, None, IfSome, IsSome, refl, sym, ap, subst, ◌∙◌, arith, append_assoc}
use Rattle.std.specs.List.{AllByRecursion}
use Rattle.std.specs.Option.{option_to_list}
use Rattle.std.proofs.lemmas.List.{reverse-append, map-append, length-append}
use Rattle.core_language.specs.Computing.{Env}
use Rattle.core_language.specs.Configurations.{Place, Running, Caller, kept}
use Rattle.core_language.specs.Acts.{at, returned}
use Rattle.core_programs.specs.declared.nodes.Node.{Node}
use Rattle.core_programs.specs.Bodies.{rest}
use Rattle.machine_values.specs.declared.binds.Bind.{Bind}
use Rattle.machine_values.specs.Reading.{env_of, value_as}
use Rattle.machine_tasks.specs.declared.tasks.Frame.{Frame}
use Rattle.machine_tasks.specs.Fits.{AtCall, FitFrom, FramesFit, IsCall}
use Rattle.machine_tasks.specs.Reading.{caller_at, caller_of, place_from, place_of}
use Rattle.machine_tasks.specs.Moving.{above, at_node, place_after}
use Rattle.machine_tasks.specs.Steps.{frame_read}

pub set_mid : {X : Type 0} (front : List X) (x y : X) (after : List X) (n : ℕ) → n ≡ length front → set (front ++ x ∷ after) n y ≡ front ++ y ∷ after
set_mid [] x y after n is = ap (λ k. set (x ∷ after) k y) is
set_mid (z ∷ front) x y after n is =
    let later : n ≡ suc (n - 1) = omega (arith, is) in
    ap (λ k. set (z ∷ front ++ x ∷ after) k y) later ∙ ap (λ zs. z ∷ zs) (set_mid front x y after (n - 1) (omega (arith, is)))

pub get_mid : {X : Type 0} (front : List X) (x d : X) (after : List X) (n : ℕ) → n ≡ length front → get_or (front ++ x ∷ after) n d ≡ x
get_mid [] x d after n is = ap (λ k. get_or (x ∷ after) k d) is
get_mid (z ∷ front) x d after n is =
    let later : n ≡ suc (n - 1) = omega (arith, is) in
    ap (λ k. get_or (z ∷ front ++ x ∷ after) k d) later ∙ get_mid front x d after (n - 1) (omega (arith, is))

-- the last two of a list
pub last_two : {X : Type 0} (xs : List X) → 2 ≤ length xs → (front : List X) × (x y : X) × (xs ≡ front ++ x ∷ y ∷ [])
last_two [] long = absurd (omega (arith, long))
last_two (x ∷ []) long = absurd (omega (arith, long))
last_two (x ∷ y ∷ []) long = ([], x, y, refl)
last_two (x ∷ y ∷ z ∷ xs) long = let (front, v, w, is) = last_two (y ∷ z ∷ xs) (omega arith) in (x ∷ front, v, w, ap (λ zs. x ∷ zs) is)

pub two_long : {X : Type 0} (front : List X) (x y : X) → length (front ++ x ∷ y ∷ []) ≡ length front + 2
two_long front x y = length-append front (x ∷ y ∷ [])

pub two_reversed : {X : Type 0} (xs front : List X) (x y : X) → xs ≡ front ++ x ∷ y ∷ [] → reverse xs ≡ y ∷ x ∷ reverse front
two_reversed xs front x y is = ap reverse is ∙ reverse-append front (x ∷ y ∷ [])

module _ (nodes : List Node) where
  place_two : (frames front : List Frame) (f top : Frame) → frames ≡ front ++ f ∷ top ∷ []
      → place_of nodes frames ≡ Running (rest nodes top.node) (env_of top.binds.items) (caller_of nodes f ∷ map (caller_of nodes) (reverse front))
  place_two frames front f top is = ap (place_from nodes) (two_reversed frames front f top is)

  fit_two : (frames front : List Frame) (f top : Frame) → frames ≡ front ++ f ∷ top ∷ [] → FramesFit nodes frames
      → (top.node < length nodes) × (AtCall nodes f × AllByRecursion (AtCall nodes) (reverse front))
  fit_two frames front f top is fits = subst (FitFrom nodes) (two_reversed frames front f top is) fits

  makes_two : (frames front : List Frame) (f top : Frame) → frames ≡ front ++ f ∷ top ∷ [] → top.node < length nodes → AtCall nodes f → AllByRecursion (AtCall nodes) (reverse front) → FramesFit nodes frames
  makes_two frames front f top is within call callers = subst (FitFrom nodes) (sym (two_reversed frames front f top is)) (within, (call, callers))

  at_same : (f g : Frame) → g.node ≡ f.node → AtCall nodes f → AtCall nodes g
  at_same f g same call = subst (λ k. AtCall nodes (record f { node = k })) (sym same) call

  caller_same : (f g : Frame) (env : Env) → g.node ≡ f.node → env_of g.binds.items ≡ env → caller_of nodes g ≡ caller_at (rest nodes f.node) env
  caller_same f g env same keeps = ap (λ k. caller_at (rest nodes k) (env_of g.binds.items)) same ∙ ap (caller_at (rest nodes f.node)) keeps

  module _ (before after front : List Frame) (f g got h : Frame) (k n : ℕ) (callee : Option Frame) (is : before ≡ front ++ f ∷ []) (more : after ≡ before ++ g ∷ []) (long : k ≡ length before)
      (called : callee ≡ Some g) (read : got ≡ get_or after (k - 1) got) (same : h.node ≡ got.node) (keeps : env_of h.binds.items ≡ kept (rest nodes n) (env_of got.binds.items)) where
    two : after ≡ front ++ f ∷ g ∷ []
    two = more ∙ ap (λ fs. fs ++ g ∷ []) is ∙ append_assoc front (f ∷ []) (g ∷ [])

    place : k - 1 ≡ length front
    place = let one : length before ≡ length front + 1 = ap length is ∙ length-append front (f ∷ []) in omega (arith, one, long)

    found : got ≡ f
    found = read ∙ ap (λ fs. get_or fs (k - 1) got) two ∙ get_mid front f got (g ∷ []) (k - 1) place

    wrote : set after (k - 1) h ≡ front ++ h ∷ g ∷ []
    wrote = ap (λ fs. set fs (k - 1) h) two ∙ set_mid front f h (g ∷ []) (k - 1) place

    -- a new frame on top, and its caller written
    pub raises : place_of nodes (set after (k - 1) h) ≡ above nodes callee (caller_at (rest nodes f.node) (kept (rest nodes n) (env_of f.binds.items)) ∷ map (caller_of nodes) (reverse front))
    raises =
        let top : List Caller → Place = λ cs. Running (rest nodes g.node) (env_of g.binds.items) cs in
        place_two (set after (k - 1) h) front h g wrote
        ∙ ap (λ c. top (c ∷ map (caller_of nodes) (reverse front)))
        (caller_same f h (kept (rest nodes n) (env_of f.binds.items)) (same ∙ ap (λ x. x.node) found) (keeps ∙ ap (λ (x : Frame). kept (rest nodes n) (env_of x.binds.items)) found))
        ∙ ap (λ o. above nodes o (caller_at (rest nodes f.node) (kept (rest nodes n) (env_of f.binds.items)) ∷ map (caller_of nodes) (reverse front))) (sym called)

    pub raises_fit : AtCall nodes f → IfSome callee (λ x. x.node < length nodes) → FramesFit nodes before → FramesFit nodes (set after (k - 1) h)
    raises_fit call stands fits =
        let (within, callers) = subst (FitFrom nodes) (ap reverse is ∙ reverse-append front (f ∷ [])) fits in
        makes_two (set after (k - 1) h) front h g wrote (subst (λ o. IfSome o (λ x. x.node < length nodes)) called stands) (at_same f h (same ∙ ap (λ x. x.node) found) call) callers

  -- another frame in place of the top one
  pub tops : (frames front : List Frame) (f g : Frame) (n : ℕ) (callee : Option Frame) → frames ≡ front ++ f ∷ [] → n ≡ length frames → callee ≡ Some g
      → place_of nodes (set frames (n - 1) g) ≡ above nodes callee (map (caller_of nodes) (reverse front))
  tops frames front f g n callee is long called =
      let one : length frames ≡ length front + 1 = ap length is ∙ length-append front (f ∷ []) in
      let wrote : set frames (n - 1) g ≡ front ++ g ∷ [] = ap (λ fs. set fs (n - 1) g) is ∙ set_mid front f g [] (n - 1) (omega (arith, one, long)) in
      ap (place_of nodes) wrote ∙ ap (place_from nodes) (reverse-append front (g ∷ [])) ∙ ap (λ o. above nodes o (map (caller_of nodes) (reverse front))) (sym called)

  module _ (before front : List Frame) (f top got h : Frame) (k : ℕ) (is : before ≡ front ++ f ∷ top ∷ []) (long : k ≡ length before) (read : got ≡ get_or before (k - 2) got) (same : h.node ≡ got.node) where
    below : k - 2 ≡ length front
    below = let two : length before ≡ length front + 2 = ap length is ∙ two_long front f top in omega (arith, two, long)

    pub found_below : got ≡ f
    found_below = read ∙ ap (λ fs. get_or fs (k - 2) got) is ∙ get_mid front f got (top ∷ []) (k - 2) below

    pub wrote_below : set before (k - 2) h ≡ front ++ h ∷ top ∷ []
    wrote_below = ap (λ fs. set fs (k - 2) h) is ∙ set_mid front f h (top ∷ []) (k - 2) below

    pub below_fits : FramesFit nodes before → FramesFit nodes (set before (k - 2) h)
    below_fits fits =
        let (within, (call, callers)) = fit_two before front f top is fits in
        makes_two (set before (k - 2) h) front h top wrote_below within (at_same f h (same ∙ ap (λ x. x.node) found_below) call) callers

    pub below_same : h.binds.items ≡ got.binds.items → place_of nodes (set before (k - 2) h) ≡ place_of nodes before
    below_same items =
        place_two (set before (k - 2) h) front h top wrote_below
        ∙ ap (λ c. Running (rest nodes top.node) (env_of top.binds.items) (c ∷ map (caller_of nodes) (reverse front)))
        (caller_same f h (env_of f.binds.items) (same ∙ ap (λ x. x.node) found_below) (ap env_of (items ∙ ap (λ (x : Frame). x.binds.items) found_below)))
        ∙ sym (place_two before front f top is)

  pub reversed_front : (frames front after : List Frame) (f top last : Frame) → frames ≡ front ++ f ∷ top ∷ [] → frames ≡ after ++ last ∷ [] → reverse after ≡ f ∷ reverse front
  reversed_front frames front after f top last is whole =
      let both : last ∷ reverse after ≡ top ∷ f ∷ reverse front = sym (ap reverse whole ∙ reverse-append after (last ∷ [])) ∙ two_reversed frames front f top is in cc

  -- the caller goes on with the value of the call, after its frame was written and the top one taken away
  pub goes_back : (frames written after end front1 front : List Frame) (f1 f g top last : Frame) (bind : Bind) (next : ℕ) → frames ≡ front1 ++ f1 ∷ [] → frames ≡ front ++ f ∷ top ∷ []
      → written ≡ front ++ g ∷ top ∷ [] → written ≡ after ++ last ∷ [] → g.binds.items ≡ f.binds.items ++ bind ∷ [] → place_of nodes end ≡ at_node nodes next (place_of nodes after)
      → caller_of nodes f ≡ record { name = bind.name; rest = rest nodes next; env = env_of f.binds.items }
      → place_of nodes end ≡ place_after (returned (map (caller_of nodes) (reverse front1)) (value_as bind.value))
  goes_back frames written after end front1 front f1 f g top last bind next whole is wrote popped more goes calls =
      let callers = map (caller_of nodes) (reverse front) in
      let back : Caller → Place = λ c. place_after (returned (c ∷ callers) (value_as bind.value)) in
      goes ∙ ap (λ fs. at_node nodes next (place_from nodes fs)) (reversed_front written front after g top last wrote popped)
      ∙ ap (λ e. at (rest nodes next) e callers) (ap env_of more ∙ map-append (λ (b : Bind). (b.name, value_as b.value)) f.binds.items (bind ∷ []))
      ∙ sym (ap back calls)
      ∙ ap (λ fs. place_after (returned (map (caller_of nodes) fs) (value_as bind.value))) (sym (reversed_front frames front front1 f top f1 is whole))

  pub back_fits : (written after front : List Frame) (g top last : Frame) → written ≡ front ++ g ∷ top ∷ [] → written ≡ after ++ last ∷ [] → FramesFit nodes written → FramesFit nodes after
  back_fits written after front g top last wrote popped fits =
      let (within, (call, callers)) = fit_two written front g top wrote fits in
      subst (FitFrom nodes) (sym (reversed_front written front after g top last wrote popped)) (call.0, callers)

  pub caller_within : (frames front : List Frame) (f top : Frame) → frames ≡ front ++ f ∷ top ∷ [] → FramesFit nodes frames → f.node < length nodes
  caller_within frames front f top is fits = let (within, (call, callers)) = fit_two frames front f top is fits in call.0

  pub caller_calls : (frames front : List Frame) (f top : Frame) → frames ≡ front ++ f ∷ top ∷ [] → FramesFit nodes frames → IsCall (rest nodes f.node)
  caller_calls frames front f top is fits = let (within, (call, callers)) = fit_two frames front f top is fits in call.1

-- a frame that was taken away
pub taken : {X : Type 0} (r : Option X) (xs ys : List X) → IsSome r → xs ≡ ys ++ option_to_list r → (x : X) × (xs ≡ ys ++ x ∷ [])
taken (Some x) xs ys some is = (x, is)
taken None xs ys some is = cc

-- the frame below the top one was written
module _ (nodes : List Node) (before front : List Frame) (f top got h : Frame) (k : ℕ) (is : before ≡ front ++ f ∷ top ∷ []) (long : k ≡ length before) (read : got ≡ get_or before (k - 2) got) where
  pub below_reads : h.node ≡ got.node → h.binds.items ≡ got.binds.items → map frame_read (set before (k - 2) h) ≡ map frame_read before
  below_reads node items =
      let found = found_below nodes before front f top got h k is long read node in
      let wrote = wrote_below nodes before front f top got h k is long read node in
      let one : frame_read h ≡ frame_read f =
      ap (λ n. (n, h.binds.items)) (node ∙ ap (λ x. x.node) found) ∙ ap (λ (bs : List Bind). (f.node, bs)) (items ∙ ap (λ (x : Frame). x.binds.items) found) in
      ap (map frame_read) wrote ∙ map-append frame_read front (h ∷ top ∷ []) ∙ ap (λ r. map frame_read front ++ r ∷ frame_read top ∷ []) one
      ∙ sym (map-append frame_read front (f ∷ top ∷ [])) ∙ ap (map frame_read) (sym is)

-- the only frame of a task has no caller
pub alone : {X : Type 0} (xs front : List X) (x : X) → xs ≡ front ++ x ∷ [] → length xs < 2 → front ≡ []
alone xs [] x is short = refl
alone xs (y ∷ front) x is short = let long = ap length is ∙ length-append (y ∷ front) (x ∷ []) in absurd (omega (arith, long, short))
