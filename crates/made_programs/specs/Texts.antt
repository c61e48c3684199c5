-- The text of the program that `make` runs, for a number N.
use Rattle.std.specs.Prelude.{ℕ, ◌-◌, codes, List, [], ◌∷◌, ◌++◌}
use Rattle.std.specs.Fmt.{decimal}
use Rattle.std.specs.List.{flat_map, range_with_len}

-- each on a line of its own
abbrev pub lines : List (List ℕ) → List ℕ
lines texts = flat_map (λ text. text ++ 10 ∷ []) texts

-- the protocols: of one number, of an end that is handed on, and of a sum
abbrev pub protocols : List ℕ
protocols = lines (codes "proto One(n) = recv int(n);"
    ∷ codes "proto Give() = recv end One(7);"
    ∷ codes "proto Sum() = recv [s] int(s);" ∷ [])

-- the first of the pipeline
abbrev pub seed : List ℕ
seed = lines (codes "fn seed [n](y: end ~One(n), a: int(n)) -> unit {"
    ∷ codes "    send1 y a;"
    ∷ codes "    ret ()"
    ∷ codes "}" ∷ [])

-- a stage of the pipeline, which adds 1
abbrev pub stage : List ℕ
stage = lines (codes "fn stage [n](y: end ~One(n + 1), c: end One(n)) -> unit {"
    ∷ codes "    let v = recv1 c;"
    ∷ codes "    let w = v + 1;"
    ∷ codes "    send1 y w;"
    ∷ codes "    ret ()"
    ∷ codes "}" ∷ [])

-- the first of those that hand an end on
abbrev pub giver : List ℕ
giver = lines (codes "fn giver(y: end ~Give(), h: end One(7)) -> unit {"
    ∷ codes "    send1 y h;"
    ∷ codes "    ret ()"
    ∷ codes "}" ∷ [])

-- one of the others
abbrev pub pass : List ℕ
pass = lines (codes "fn pass(y: end ~Give(), c: end Give()) -> unit {"
    ∷ codes "    let e = recv1 c;"
    ∷ codes "    send1 y e;"
    ∷ codes "    ret ()"
    ∷ codes "}" ∷ [])

-- a tree of tasks that counts its leaves
abbrev pub tree : List ℕ
tree = lines (codes "fn tree [n: 0 <= n](y: end ~Sum(), d: int(n)) -> unit {"
    ∷ codes "    if d <= 0 {"
    ∷ codes "        send1 y 1 with [1];"
    ∷ codes "        ret ()"
    ∷ codes "    } else {"
    ∷ codes "        let e = d - 1;"
    ∷ codes "        let a = fork Sum() tree(e) with [n - 1] by [{1 #1}];"
    ∷ codes "        let b = fork Sum() tree(e) with [n - 1] by [{1 #1}];"
    ∷ codes "        let u [s] = recv1 a;"
    ∷ codes "        let w [t] = recv1 b;"
    ∷ codes "        let z = u + w;"
    ∷ codes "        send1 y z with [s + t];"
    ∷ codes "        ret ()"
    ∷ codes "    }"
    ∷ codes "}" ∷ [])

abbrev pub declarations : List ℕ
declarations = protocols ++ seed ++ stage ++ giver ++ pass ++ tree

-- the fork of the stage with this number, which receives from the one before it
abbrev pub stage_line : ℕ → List ℕ
stage_line i =
    (codes "    let c" ++ decimal i) ++ (codes " = fork One(" ++ decimal i) ++ (codes ") stage(c" ++ decimal (i - 1)) ++ (codes ") with [" ++ decimal (i - 1)) ++ codes "];\n"

-- the fork of one that hands on what it has from the one before it
abbrev pub pass_line : ℕ → List ℕ
pass_line i = (codes "    let g" ++ decimal i) ++ (codes " = fork Give() pass(g" ++ decimal (i - 1)) ++ codes ");\n"

-- the lines for each number from 1 to n
abbrev pub for_each : (ℕ → List ℕ) → ℕ → List ℕ
for_each line n = flat_map line (range_with_len 1 n)

abbrev pub pipeline : ℕ → List ℕ
pipeline n = lines (codes "fn main() -> unit {" ∷ codes "    let c0 = fork One(0) seed(0) with [0];" ∷ []) ++ for_each stage_line n

abbrev pub delegation : ℕ → List ℕ
delegation n = lines (codes "    let h = fork One(7) seed(7) with [7];" ∷ codes "    let g0 = fork Give() giver(h);" ∷ []) ++ for_each pass_line n

-- what `main` receives and prints
abbrev pub answers : ℕ → List ℕ
answers n =
    (codes "    let r = fork Sum() tree(6) with [6];\n    let v = recv1 c" ++ decimal n) ++ (codes ";\n    print v;\n    let e = recv1 g" ++ decimal n)
    ++ lines (codes ";" ∷ codes "    let x = recv1 e;" ∷ codes "    print x;" ∷ codes "    let w [s] = recv1 r;" ∷ codes "    print w;" ∷ codes "    ret ()" ∷ codes "}" ∷ [])

-- the whole text
abbrev pub made_text : ℕ → List ℕ
made_text n = declarations ++ pipeline n ++ delegation n ++ answers n
