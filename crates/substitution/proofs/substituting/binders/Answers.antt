use Rattle.std.proofs.Common.{◌≡◌, ◌+◌, ◌-◌, true, suc, length, map, sym, arith}
use Rattle.chan_syntax.specs.Reading.{res_of}
use Rattle.linear_forms.specs.Substitution.{terms_of_res}
use Rattle.linear_forms.specs.Replacing.{IsShort, IsLonger}
use Rattle.linear_forms.proofs.Rebuilt.{binder_safe, binder_longer}
use Rattle.substitution.specs.Scopes.{put_in, before_of}
use Rattle.substitution.proofs.Groups.{before_next, safe_next, renamed_next}
use Rattle.substitution.proofs.substituting.binders.Goals as goal

pub loop-index-preserved : goal.loop-index-preserved
loop-index-preserved c =
    let shorts = rw (sym c.as_slice-names.ensures) at c.requires in
    let short : IsShort c.args.longest c.index-names-index.result = rw (sym c.index-names-index.is) at (shorts c.loop-index.index c.index-names-index.result c.loop-index-test.true) in
    let around : c.in_ok-around.around ≡ length c.args.scope.now + (length c.as_slice-names.result.now - (c.loop-index.index + 1)) = omega (arith, c.in_ok-around.ensures, c.len.ensures, c.loop-index-test.true) in
    let long : c.in_ok-caught.caught ≡ true → length c.in_ok-made.made.made ≡ suc c.args.longest + (length c.args.scope.now + (length c.as_slice-names.result.now - (c.loop-index.index + 1))) = λ e. rw around at (c.in_ok-made.ensures.made e) in
    let one_less : length c.args.scope.now + (length c.as_slice-names.result.now - c.loop-index.index) ≡ suc (length c.args.scope.now + (length c.as_slice-names.result.now - (c.loop-index.index + 1))) = omega (arith, c.loop-index-test.true) in
    record {
      before = before_next c.as_slice-names.result.now c.loop-index.index c.index-names-index.result c.loop-index.group c.push.new.self c.in_ok-made.made c.loop-index-test.true (sym c.index-names-index.is) c.in_ok-push.ensures.ok c.in_ok-made.ensures.name c.loop-index.invariant.before;
      safe = safe_next c.args.longest (map put_in c.args.put.now) (terms_of_res (before_of c.args.scope.now) (res_of c.args.res.now)) _ _ c.loop-index.group c.push.new.self c.in_ok-made.made one_less c.in_ok-push.ensures.ok c.loop-index.invariant.safe (rw c.in_ok-made.ensures.name (binder_safe c.args.longest (map put_in c.args.put.now) (terms_of_res (before_of c.args.scope.now) (res_of c.args.res.now)) (length c.args.scope.now + (length c.as_slice-names.result.now - (c.loop-index.index + 1))) c.index-names-index.result c.in_ok-made.made.made c.in_ok-caught.caught short c.in_ok-caught.ensures c.in_ok-made.ensures.kept long));
      longer = renamed_next (IsLonger c.args.longest (map put_in c.args.put.now) (before_of c.args.scope.now) (res_of c.args.res.now)) c.as_slice-names.result.now c.loop-index.index c.index-names-index.result c.loop-index.group c.push.new.self c.in_ok-made.made c.loop-index-test.true (sym c.index-names-index.is) c.in_ok-push.ensures.ok c.loop-index.invariant.longer (binder_longer c.args.longest (map put_in c.args.put.now) (before_of c.args.scope.now) (res_of c.args.res.now) (length c.args.scope.now + (length c.as_slice-names.result.now - (c.loop-index.index + 1))) c.index-names-index.result c.in_ok-made.made.made c.in_ok-caught.caught short c.in_ok-caught.ensures c.in_ok-made.ensures.kept long);
    }
