-- Limits of forms.
use Rattle.chan_syntax.specs.Reading.{relation_of}
use Rattle.outline_language.specs.Nameless as nameless
use Rattle.nameless_forms.specs.declared.limits.Limit.{Limit}

-- the limit, as the definitions have it
abbrev pub limit_of : Limit → nameless.Limit
limit_of limit = record { left = limit.left; relation = relation_of limit.relation; right = limit.right }
