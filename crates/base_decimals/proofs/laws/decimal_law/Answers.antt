use Rattle.base_decimals.proofs.Decimals.{number_sound}
use Rattle.base_decimals.proofs.Signed.{numbers_read_back, integers_read_back, integers_are_spelled}
use Rattle.base_decimals.proofs.laws.decimal_law.Goals as goal

pub returns : goal.returns
returns c = record {
  numbers_read_back = numbers_read_back;
  numbers_are_spelled = number_sound;
  integers_read_back = integers_read_back;
  integers_are_spelled = integers_are_spelled;
}
