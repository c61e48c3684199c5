use Rattle.nameless_ties.proofs.Instances.{put_term_is_instance}
use Rattle.nameless_ties.proofs.Resources.{put_res_is_instance}
use Rattle.nameless_ties.proofs.ties.Goals as goal

pub returns-clause-terms : goal.returns-clause-terms
returns-clause-terms c = put_term_is_instance

pub returns-clause-resources : goal.returns-clause-resources
returns-clause-resources c = put_res_is_instance
