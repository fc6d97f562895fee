-- Scaffold: The line by which a program that listens says its port.
use Rattle.std.specs.Prelude.{◌≡◌, ℕ, ◌≤◌, List, ◌++◌, codes}
use Rattle.std.specs.Fmt.{decimal}

-- a line, without its line feed, says this port: `port P`, with P from 1 to 65,535 in decimal
pub record SaysPort (line : List ℕ) (port : ℕ) : Type 0 where
  pub is : line ≡ codes "port " ++ decimal port
  pub low : 1 ≤ port
  pub high : port ≤ 65_535
