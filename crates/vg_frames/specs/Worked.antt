-- What the definitions come to on values that were worked apart from this program.
use Rattle.std.specs.Prelude.{ℕ, ◌≡◌, List, [], ◌∷◌, take, drop}
use Rattle.vg_frames.specs.Frames.{number_of, time_of, flow_of, sum_of, checksum, ipv4, frame_of}

-- the bytes of RFC 1071, section 3
abbrev pub rfc_1071 : List ℕ
rfc_1071 = 0 ∷ 1 ∷ 242 ∷ 3 ∷ 244 ∷ 245 ∷ 246 ∷ 247 ∷ []

pub record WorkedFrames : Type 0 where
  pub first_number : number_of 7 1 ≡ 9098160460397411210
  pub second_number : number_of 7 2 ≡ 17628806926561717905
  pub wraps : number_of 18446744073709551615 1 ≡ 13525302890751722018
  pub first_flow : flow_of (number_of 7 1) ≡ 30556
  pub second_flow : flow_of (number_of 7 2) ≡ 46463
  pub late : time_of 1000000 ≡ 1000000000
  -- ddf2
  pub sum : sum_of rfc_1071 4 ≡ 56818
  -- 66bf, 64c1, 64bf and 7806
  pub least_flow : checksum (ipv4 0 0) ≡ 26303
  pub lower_byte : checksum (ipv4 255 0) ≡ 25793
  pub upper_byte : checksum (ipv4 256 0) ≡ 25791
  pub first_frame : checksum (ipv4 30556 0) ≡ 30726
  pub addresses : take 10 (drop 24 (frame_of 30556)) ≡ 120 ∷ 6 ∷ 10 ∷ 0 ∷ 119 ∷ 92 ∷ 10 ∷ 1 ∷ 119 ∷ 92 ∷ []
