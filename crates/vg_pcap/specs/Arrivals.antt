-- The one order of the frames that come in at several ports: by time, then by port, then by their place in the port's capture.
use Rattle.std.specs.Prelude.{ℕ, ◌≡◌, ◌<◌, ◌≤◌, ◌⊎◌, ◌==◌, ◌++◌, List, [], ◌∷◌, length, get_or, map, filter, All, AllPairs, Contains}
use Rattle.vg_pcap.specs.declared.faults.Damage.{Damage}
use Rattle.vg_pcap.specs.Captures.{Whole, Refused}
use Rattle.vg_pcap.specs.Frames.{Framed, Stream}

-- a frame, and the port at which it came in
pub record Arrival : Type 0 where
  pub port : ℕ
  pub frame : Framed

-- no frames
abbrev pub no_frames : Stream
no_frames = record { frames = []; end = Whole }

-- the stream of a port
abbrev pub stream_at : List Stream → ℕ → Stream
stream_at streams port = get_or streams port no_frames

-- the frames among arrivals that came in at a port, in order
abbrev pub frames_from : ℕ → List Arrival → List Framed
frames_from port arrivals = map (λ a. a.frame) (filter (λ a. a.port == port) arrivals)

-- one comes no later than another: it is earlier, or as early and at no higher port
abbrev pub Precedes : Arrival → Arrival → Type 0
Precedes a b = (a.frame.time < b.frame.time) ⊎ ((a.frame.time ≡ b.frame.time) × (a.port ≤ b.port))

-- The arrivals are the first of the streams' frames, in order, and these are left: each port's come in turn, and none that is left comes before
-- one of the first.
pub record ComeFirst (streams : List Stream) (first : List Arrival) (left : List Stream) : Type 0 where
  pub ports : length left ≡ length streams
  pub in_turn : (port : ℕ) → (stream_at streams port).frames ≡ frames_from port first ++ (stream_at left port).frames
  pub ends : (port : ℕ) → (stream_at left port).end ≡ (stream_at streams port).end
  pub of_ports : All (λ a. a.port < length streams) first
  pub ordered : AllPairs Precedes first
  pub before : (port : ℕ) (frame : Framed) → Contains (stream_at left port).frames frame →
      All (λ a. Precedes a (record { port = port; frame = frame })) first

-- the port of the last arrival is this, or there is none
abbrev pub EndsAt : List Arrival → ℕ → Type 0
EndsAt [] port = Unit {0}
EndsAt (a ∷ []) port = a.port ≡ port
EndsAt (a ∷ arrivals) port = EndsAt arrivals port

-- a port's frames have all come, and its next record is refused
pub record IsAtDamage (left : List Stream) (port : ℕ) (damage : Damage) : Type 0 where
  pub none_left : (stream_at left port).frames ≡ []
  pub refused : (stream_at left port).end ≡ Refused damage

-- The arrivals are those of whole streams, up to the last one.
pub record AllCome (streams : List Stream) (arrivals : List Arrival) : Type 0 where
  pub left : List Stream
  pub first : ComeFirst streams arrivals left
  pub none_left : (port : ℕ) → (stream_at left port).frames ≡ []
  pub whole : (port : ℕ) → (stream_at streams port).end ≡ Whole

-- The arrivals are those up to the first record that is refused, which is one of this port: the last frame is the port's last good one. At the
-- other ports no refused record is next, but for higher ports where no frame came at all.
pub record ComeUpTo (streams : List Stream) (arrivals : List Arrival) (port : ℕ) (damage : Damage) : Type 0 where
  pub left : List Stream
  pub first : ComeFirst streams arrivals left
  pub is_port : port < length streams
  pub at_damage : IsAtDamage left port damage
  pub right_after : EndsAt arrivals port
  pub no_other : (other : ℕ) (d : Damage) → IsAtDamage left other d → (other ≡ port) ⊎ ((arrivals ≡ []) × (port < other))
