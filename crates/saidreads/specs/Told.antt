-- What a call says, read from its 16 bytes.
use Rattle.std.specs.Prelude.{ℕ, ◌≡◌, List}
use Rattle.shapes.specs.Shape.{◌&◌, Value, value}
use Rattle.saidbytes.specs.Says.{said_shape}
use Rattle.tally.specs.declared.CallTold.{CallTold}

abbrev pub call_from : Value said_shape → CallTold
call_from ((number & command & reason & place) & (taken & dropped & checked) & reply & listed & spare) =
    record {
      number = number;
      command = command;
      reason = reason;
      place = place;
      taken = taken;
      dropped = dropped;
      checked = checked;
      reply = reply;
      listed = listed;
    }

unfoldable pub call_of : List ℕ → CallTold
call_of said = call_from (value said_shape said 0)

-- what `told` promises
abbrev pub ReadsSaid : List ℕ → CallTold → Type 0
ReadsSaid said r = r ≡ call_of said
