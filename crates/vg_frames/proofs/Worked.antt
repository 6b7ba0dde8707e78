-- The worked values are as the definitions have them.
use Rattle.std.proofs.Common.{refl}
use Rattle.vg_frames.specs.Worked.{WorkedFrames}

pub worked : WorkedFrames
worked = record {
  first_number = refl;
  second_number = refl;
  wraps = refl;
  first_flow = refl;
  second_flow = refl;
  late = refl;
  sum = refl;
  least_flow = refl;
  lower_byte = refl;
  upper_byte = refl;
  first_frame = refl;
  addresses = refl;
}
