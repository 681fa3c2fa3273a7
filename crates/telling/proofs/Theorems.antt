-- Any two results that the promise allows are equal.
use Rattle.std.proofs.Common.{refl, true, false, Result, rules}
use Rattle.std.specs.declared.io.Error.{Error}
use Rattle.lists.specs.Promise.{Determined}
use Rattle.telling.specs.Unread.{SaysUnread}

pub is_unread_determined : (written : Result (Unit {0}) Error) → Determined (SaysUnread written)
is_unread_determined written true true e g = refl
is_unread_determined written false false e g = refl
is_unread_determined written true false e g = absurd (search rules)
is_unread_determined written false true e g = absurd (search rules)
