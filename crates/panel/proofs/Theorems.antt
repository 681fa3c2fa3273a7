-- Any two results that its promise allows are equal.
use Rattle.lists.specs.Promise.{Determined}
use Rattle.lists.proofs.Theorems.{one}
use Rattle.panel.specs.State.{Starts}

pub powered_on_determined : Determined Starts
powered_on_determined = one _
