use Rattle.std.proofs.Common.{◌≡◌, subst}
use Rattle.std.specs.Cmp.Lexicographic.{nat_list_cmp_total}
use Rattle.std.specs.declared.cmp.Ordering.TheVariants.{Equal}
use Rattle.chan_base.specs.Names.{order}
use Rattle.chan_base.proofs.NameOrder.{order-self, order-equal, order-front, order-parts}
use Rattle.chan_base.proofs.names.order_of_names.Goals as goal

pub returns-clause-total : goal.returns-clause-total
returns-clause-total c = nat_list_cmp_total

pub returns-clause-exact : goal.returns-clause-exact
returns-clause-exact c = λ p q. (order-equal p q, λ same. subst (λ r. order p r ≡ Equal) same (order-self p))

pub returns-clause-front : goal.returns-clause-front
returns-clause-front c = order-front

pub returns-clause-parts : goal.returns-clause-parts
returns-clause-parts c = order-parts
