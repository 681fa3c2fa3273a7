-- When a write failed because nobody reads.
use Rattle.std.specs.Prelude.{◌≡◌, ◌↔◌, Bool, IsTrue, Result, Ok, Err}
use Rattle.std.specs.declared.io.Error.{Error}
use Rattle.std.specs.declared.io.ErrorKind.TheVariants.{BrokenPipe}
use Rattle.std.specs.IoError.{error_kind}

-- the pipe is broken: its reader has gone
abbrev pub Unread : Result (Unit {0}) Error → Type 0
Unread (Ok _) = ⊥
Unread (Err why) = error_kind why ≡ BrokenPipe

-- what `is_unread` promises
abbrev pub SaysUnread : Result (Unit {0}) Error → Bool → Type 0
SaysUnread written r = IsTrue r ↔ Unread written
