-- What a program keeps from call to call.
use Rattle.std.specs.Prelude.{ℕ, ◌≡◌, Bool, false, ◌&&◌, not}
use Rattle.lists.specs.Tests.{◌<?◌, ◌≤?◌, ◌=?◌}
use Rattle.tally.specs.declared.CallTold.{CallTold}
use Rattle.tally.specs.Sums.{largest, sum_of, sums_with}
use Rattle.kept.specs.declared.Session.{Session}

-- nothing is taken, and a piece is waited for
abbrev pub start : Session
start =
    record {
      at = 0;
      end = 0;
      over = false;
      failed = false;
      lost = false;
      call = record { number = 1; command = 0; reason = 0; place = 0; taken = 0; dropped = 0; checked = 0; reply = 0; listed = 0 };
      sums = record { events = 0; offset = 0; taken = 0; dropped = 0; checked = 0 };
    }

-- with a piece of so many bytes; with none the input is over
abbrev pub with_piece : Session → ℕ → Bool → Session
with_piece s count failed =
    record { at = 0; end = count; over = count =? 0; failed = failed; lost = s.lost; call = s.call; sums = s.sums }

-- with a call more on the bytes from `at` on: what it took is taken, and a call that is refused by number is the last
abbrev pub with_call : Session → ℕ → ℕ → CallTold → Session
with_call s at held c =
    record {
      at = sum_of at c.taken;
      end = s.end;
      over = 10 ≤? c.number;
      failed = s.failed;
      lost = s.lost;
      call = c;
      sums = sums_with s.sums held c;
    }

-- a step more is to be made unless the session is over, or no more steps can be counted
abbrev pub goes_on : ℕ → Bool → Bool
goes_on steps over = (steps <? largest) && not over

-- what `started`, `going`, `with_piece` and `with_call` promise
abbrev pub StartsSession : Session → Type 0
StartsSession r = r ≡ start

abbrev pub Goes : ℕ → Bool → Bool → Type 0
Goes steps over r = r ≡ goes_on steps over

abbrev pub PieceCame : Session → ℕ → Bool → Session → Type 0
PieceCame s count failed r = r ≡ with_piece s count failed

abbrev pub CallMade : Session → ℕ → ℕ → CallTold → Session → Type 0
CallMade s at held c r = r ≡ with_call s at held c
