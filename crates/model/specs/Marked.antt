-- "Marked set": S1 to S12, from bytes to answer and lists where a sheet is given. proofs/MarkedProof.antt has the proof, by computing.
use Rattle.std.specs.Prelude.{ℕ, ◌≡◌, true, false, List, [], ◌∷◌, replicate}
use Rattle.model.specs.declared.Settings.{Settings}
use Rattle.model.specs.declared.Point.{Point}
use Rattle.model.specs.declared.Road.{Road}
use Rattle.model.specs.Numbers.{bits, nat, f0, f1}
use Rattle.model.specs.Sheet.{Sheet, settings_of}
use Rattle.model.specs.View.{Projection, max_valid_distance, raised}
use Rattle.model.specs.Candidates.{bearing_difference, fraction, compute_score, candidate_of, passes}
use Rattle.model.specs.Legs.{stays}
use Rattle.model.specs.Ends.{is_valid_node}
use Rattle.model.specs.Call.{Lists, Lent, Decoded, Match, refused, matched, decode}
use Rattle.model.specs.Build.{Parts, default_settings, point, road, row, goal, sheet_bytes}

-- what the list program lends, with a heap of so many slots, and answer lists that hold something
abbrev pub lists : Lists
lists = record { ids = replicate 256 7; lengths = replicate 256 (nat 7) }

abbrev pub with_heap : ℕ → Lent
with_heap slots = record { node = 64; heap = slots; coverage = 256; lists = lists }

abbrev pub lent : Lent
lent = with_heap 128

abbrev pub zeroed : Lists
zeroed = record { ids = replicate 256 0; lengths = replicate 256 f0 }

-- S1's road and lists, with these points and rows
abbrev pub one_road : List (List ℕ) → List (List ℕ) → Parts
one_road points rows = record {
  kind = 1;
  nodes = 2;
  settings = default_settings;
  points = points;
  roads = road 700 100 0 1 3 3 0 ∷ [];
  starts = 0 ∷ 1 ∷ 1 ∷ [];
  numbers = 0 ∷ [];
  rows = rows;
  from_first = 0 ∷ 0 ∷ [];
  from_last = 0 ∷ 0 ∷ [];
  goals = goal 0 (0 ∷ 0 ∷ []) ∷ [];
}

-- a point on it, and the rows of two points at the alongs a and b
abbrev pub first_point : ℕ → List ℕ
first_point rows = point 50 3 3 3 rows

abbrev pub last_point : ℕ → List ℕ
last_point rows = point 0 3 3 255 rows

abbrev pub on_road : ℕ → List ℕ
on_road along = row 0 0 90 along 100

abbrev pub two_points : ℕ → ℕ → List ℕ
two_points a b = sheet_bytes (one_road (first_point 1 ∷ last_point 1 ∷ []) (on_road a ∷ on_road b ∷ []))

abbrev pub defaults : Settings
defaults = settings_of default_settings

-- a road of this class and form of way, and a point of class 1 on it
abbrev pub class_projection : ℕ → ℕ → Projection
class_projection frc fow = record {
  row = record { road = 0; distance_m = f0; bearing = nat 90; along_m = nat 25; length_m = nat 100 };
  road = record { number = 0; id = 700; length_m = nat 100; source = 0; target = 1; frc = frc; fow = fow; access = false };
}

abbrev pub class_1 : Point
class_1 = record { dnp = nat 50; bearing = 90; frc = 1; fow = 3; limit = 3 }

-- a one-way road between two nodes
abbrev pub one_way : ℕ → ℕ → ℕ → Road
one_way number source target = record { number = number; id = 700; length_m = nat 100; source = source; target = target; frc = 3; fow = 3; access = false }

-- node 2 fed by two one-way roads, none out
abbrev pub fed : Sheet
fed = record {
  kind = 1;
  nodes = 3;
  settings = defaults;
  points = [];
  roads = one_way 0 0 2 ∷ one_way 1 1 2 ∷ [];
  lists = (0 ∷ []) ∷ (1 ∷ []) ∷ [] ∷ [];
  from_first = [];
  from_last = [];
  goals = [];
}

abbrev pub s1_match : Match
s1_match = record {
  count = 1;
  length_m = bits 0x4049_0000_0000_0000;
  start_offset = bits 0x4039_0000_0000_0000;
  start_fraction = bits 0x3FD0_0000_0000_0000;
  end_offset = bits 0x4039_0000_0000_0000;
  end_fraction = bits 0x3FD0_0000_0000_0000;
  primary = 700;
  coverage = bits 0x4049_0000_0000_0000;
}

abbrev pub s1_lists : Lists
s1_lists = record { ids = 700 ∷ replicate 255 0; lengths = bits 0x4059_0000_0000_0000 ∷ replicate 255 f0 }

-- a refusal that zeroes the lists
abbrev pub refusal : ℕ → ℕ → ℕ → Decoded
refusal number a b = record { answer = refused number a b; lists = zeroed }

pub record MarkedSet : Type 0 where
  pub s1 : decode (two_points 25 75) lent ≡ record { answer = matched s1_match; lists = s1_lists }
  pub s2 : decode (two_points 75 25) lent ≡ refusal 10 0 1
  pub s3 : decode (sheet_bytes (one_road (first_point 1 ∷ []) (on_road 25 ∷ []))) lent ≡ refusal 10 0 0
  pub s4 : decode (sheet_bytes (one_road [] [])) lent ≡ refusal 8 0 0
  pub s5 : (bearing_difference (nat 350) (nat 10) ≡ nat 20) × (bearing_difference (nat 0) (nat 180) ≡ nat 180)
  pub s6 : raised 2 6 ≡ 7
  pub s7 : (fraction (nat 120) (nat 100) ≡ f1) × (fraction (nat 120) f0 ≡ f0)
  pub s8 : (passes defaults (candidate_of defaults class_1 (class_projection 4 3)) ≡ false) × (passes defaults (candidate_of defaults class_1 (class_projection 4 6)) ≡ true)
  pub s9 : compute_score defaults (nat 50) f0 0 f1 ≡ nat 5
  pub s10 : max_valid_distance defaults (nat 100) ≡ nat 200
  pub s11 : (stays (nat 3) (nat 100) ≡ true) × (stays (nat 2) (nat 100) ≡ false)
  pub s12 : is_valid_node fed 2 ≡ true
