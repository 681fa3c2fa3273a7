use Rattle.perform.specs.Commands.{carried}
use Rattle.perform.proofs.perform.Goals as goal

pub returns : goal.returns
unfolding carried
returns c =
    record {
      body = c.effect_of-after.ensures;
      written = rw (c.reply_with-written.ensures.0, c.reply_to.ensures);
      replied = rw (c.reply_with-written.ensures.1, c.reply_to.ensures);
      repaints = rw (← c.effect_of-after.ensures) c.repaint-listed.ensures;
    }
