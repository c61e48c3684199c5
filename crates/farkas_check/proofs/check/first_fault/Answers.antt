use Rattle.farkas_check.proofs.Validity.{indexed_if_ok}
use Rattle.farkas_check.proofs.check.first_fault.Goals as goal

pub check_coefficients-requires-clause-indexed : goal.check_coefficients-requires-clause-indexed
check_coefficients-requires-clause-indexed c =
    indexed_if_ok c.args.hyps.now c.args.cert.now.mentions _ _ _ c.as_slice.ensures c.check_mentions.ensures c.in_ok-check_mentions.was

pub check_constant-requires : goal.check_constant-requires
check_constant-requires c =
    indexed_if_ok c.args.hyps.now c.args.cert.now.mentions _ _ _ c.as_slice.ensures c.check_mentions.ensures c.in_ok-check_mentions.was
