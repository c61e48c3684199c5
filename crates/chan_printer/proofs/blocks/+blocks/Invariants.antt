use Rattle.std.proofs.Common.{◌≡◌, ◌++◌, if◌then◌else◌, drop}
use Rattle.surface_spelling.specs.Layout.{bytes}
use Rattle.surface_spelling.specs.Blocks.{stmts, arms, behind_else, blocks}
use Rattle.chan_printer.proofs.blocks.+blocks.Given as goal

abbrev pub invariant-put_stmts-loop-stmt : goal.invariant-put_stmts-loop-stmt
invariant-put_stmts-loop-stmt l =
    l.text.items ++ bytes (stmts l.depth (drop l.stmt-index l.stmts)) ≡ l.initial.text.items ++ bytes (stmts l.depth l.stmts)

abbrev pub invariant-put_arms-loop-number : goal.invariant-put_arms-loop-number
invariant-put_arms-loop-number l =
    l.text.items ++ bytes (arms l.depth l.number (drop l.number l.arms)) ≡ l.initial.text.items ++ bytes (arms l.depth 0 l.arms)

abbrev pub invariant-put_blocks-loop-block : goal.invariant-put_blocks-loop-block
invariant-put_blocks-loop-block l =
    l.text.items ++ bytes (if l.behind then behind_else l.depth (drop l.block-index l.blocks) else blocks l.depth (drop l.block-index l.blocks))
    ≡ l.initial.text.items ++ bytes (blocks l.depth l.blocks)
