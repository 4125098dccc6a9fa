-- What it takes that the oldest message from s to d is delivered: the two are neighbours, and there is a message.
use Rattle.std.specs.Prelude.{◌≡◌, true, ℕ, ◌<◌, length}
use Rattle.protocol.specs.Net.{Net, near?}

pub record MayDeliver (N : Net) (s d : ℕ) : Type 0 where
  pub between : near? N s d ≡ true
  pub some : 0 < length (N.channel s d)
