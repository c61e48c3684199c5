use Rattle.put_term_laws.proofs.Counted.{normal_is_same, normal_is_normal}
use Rattle.put_term_laws.proofs.Puts.{put_term_is_put}
use Rattle.put_term_laws.proofs.Apart.{numbered_is_one, numbered_stands}
use Rattle.put_term_laws.proofs.Renamed.{renamed_is_put}
use Rattle.put_term_laws.proofs.Shapes.{renamed_shape_is_put}
use Rattle.put_term_laws.proofs.laws.Goals as goal

pub returns-clause-same : goal.returns-clause-same
returns-clause-same c = normal_is_same

pub returns-clause-normal : goal.returns-clause-normal
returns-clause-normal c = normal_is_normal

pub returns-clause-put : goal.returns-clause-put
returns-clause-put c = put_term_is_put

pub returns-clause-one : goal.returns-clause-one
returns-clause-one c = numbered_is_one

pub returns-clause-stands : goal.returns-clause-stands
returns-clause-stands c = numbered_stands

pub returns-clause-renamed : goal.returns-clause-renamed
returns-clause-renamed c = renamed_is_put

pub returns-clause-shapes : goal.returns-clause-shapes
returns-clause-shapes c = renamed_shape_is_put
