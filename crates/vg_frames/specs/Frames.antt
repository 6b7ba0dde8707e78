-- Made frames: a sequence of numbers, and of each number the UDP frame of a flow. They stand in for a capture where none is given.
use Rattle.std.specs.Prelude.{ℕ, zero, suc, ◌+◌, ◌*◌, ◌-◌, ◌/◌, ◌%◌, ◌^◌, List, [], ◌∷◌, ◌++◌, replicate, get_or}
use Rattle.std.specs.Int.{bytes_high_first}

-- the number after another: a linear congruence modulo 2^64 (Knuth's MMIX generator)
abbrev pub next_number : ℕ → ℕ
next_number x = (x * 6364136223846793005 + 1442695040888963407) % 2 ^ 64

-- the number of a frame, the frames counted from 1; the seed stands before them
abbrev pub number_of : (seed frame : ℕ) → ℕ
number_of seed zero = seed
number_of seed (suc k) = next_number (number_of seed k)

-- the time of a frame, in nanoseconds
abbrev pub time_of : ℕ → ℕ
time_of frame = 1000 * frame

-- which of 60,000 flows a number chooses, by its upper half
abbrev pub flow_of : ℕ → ℕ
flow_of x = x / 2 ^ 32 % 60000

-- ---- the checksum of an IPv4 header (RFC 791, section 3.1): the one's complement of the one's complement sum of its 16-bit words, the
-- checksum itself counted as 0

-- two words added in one's complement: what is carried out at the top comes back at the bottom (RFC 1071, section 1)
abbrev pub added : ℕ → ℕ → ℕ
added a b = (a + b) % 65536 + (a + b) / 65536

-- the word that begins at a byte, its upper byte first
abbrev pub word_at : List ℕ → ℕ → ℕ
word_at bytes at = get_or bytes at 0 * 256 + get_or bytes (at + 1) 0

-- the sum of so many words
abbrev pub sum_of : List ℕ → ℕ → ℕ
sum_of bytes zero = 0
sum_of bytes (suc k) = added (sum_of bytes k) (word_at bytes (2 * k))

-- of a header of five 32-bit words
abbrev pub checksum : List ℕ → ℕ
checksum header = 65535 - sum_of header 10

-- ---- the frame of a flow: 60 bytes

-- a number of 16 bits, its upper byte first
abbrev pub two_bytes : ℕ → List ℕ
two_bytes = bytes_high_first 2

-- to 02:00:00:00:ff:ff, from 02:00:00:00 and the flow; IPv4
abbrev pub ethernet : ℕ → List ℕ
ethernet flow = 2 ∷ 0 ∷ 0 ∷ 0 ∷ 255 ∷ 255 ∷ 2 ∷ 0 ∷ 0 ∷ 0 ∷ two_bytes flow ++ 8 ∷ 0 ∷ []

-- 46 bytes of UDP at a time to live of 64, from 10.0 and the flow to 10.1 and the flow, with this checksum
abbrev pub ipv4 : ℕ → ℕ → List ℕ
ipv4 flow sum = 69 ∷ 0 ∷ 0 ∷ 46 ∷ 0 ∷ 0 ∷ 0 ∷ 0 ∷ 64 ∷ 17 ∷ two_bytes sum ++ 10 ∷ 0 ∷ two_bytes flow ++ 10 ∷ 1 ∷ two_bytes flow

-- from port 5000 to port 53, 26 bytes, without a checksum
abbrev pub udp : List ℕ
udp = two_bytes 5000 ++ two_bytes 53 ++ two_bytes 26 ++ two_bytes 0

abbrev pub frame_of : ℕ → List ℕ
frame_of flow = ethernet flow ++ ipv4 flow (checksum (ipv4 flow 0)) ++ udp ++ replicate 18 0
