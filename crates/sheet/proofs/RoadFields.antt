-- The classes and the access mark of a road of the parsed sheet, as bytes of the sheet.
use Prim.Native.Nat.{ℕ, ◌+◌, ◌*◌, ◌<◌}
use mathlib.Core.Path.{◌≡◌, refl, ap, ◌∙◌}
use mathlib.Core.Bool.{Bool}
use mathlib.Core.List.{List}
use native.Mathlib.Omega.{arith}
use lib.Dec.{eqb}
use lib.Ieee.{Float}
use Rattle.model.specs.declared.Counts.{Counts}
use Rattle.model.specs.declared.Road.{Road}
use Rattle.model.specs.Bytes.{u8_at}
use Rattle.model.specs.Layout.{roads_at}
use Rattle.model.specs.Sheet.{road_of, sheet_of, road_at}
use Rattle.model.proofs.Sections.{u8_section}
use Rattle.model.proofs.Parsed.{road_is}

module _ (s : List ℕ) (c : Counts) (r : ℕ) (h : r < c.e) where
  pub frc_is : (road_at (sheet_of s c) r).frc ≡ u8_at s (roads_at c + r * 32 + 24)
  unfolding road_of
  frc_is = ap (λ (x : Road). x.frc) (road_is s c r h) ∙ u8_section s _ 32 24 _ (omega arith) refl

  pub fow_is : (road_at (sheet_of s c) r).fow ≡ u8_at s (roads_at c + r * 32 + 25)
  unfolding road_of
  fow_is = ap (λ (x : Road). x.fow) (road_is s c r h) ∙ u8_section s _ 32 25 _ (omega arith) refl

  pub access_is : (road_at (sheet_of s c) r).access ≡ eqb (u8_at s (roads_at c + r * 32 + 26)) 1
  unfolding road_of
  access_is = ap (λ (x : Road). x.access) (road_is s c r h) ∙ ap (λ (b : ℕ). eqb b 1) (u8_section s _ 32 26 _ (omega arith) refl)

-- what has the fields of a road is that road
pub same_road : (x : Road) {number id source target frc fow : ℕ} {metres : Float} {access : Bool} → number ≡ x.number → id ≡ x.id → metres ≡ x.length_m → source ≡ x.source → target ≡ x.target → frc ≡ x.frc → fow ≡ x.fow → access ≡ x.access → ◌≡◌ {A = Road} (record { number = number; id = id; length_m = metres; source = source; target = target; frc = frc; fow = fow; access = access }) x
same_road x number id metres source target frc fow access = λ i. record { number = number i; id = id i; length_m = metres i; source = source i; target = target i; frc = frc i; fow = fow i; access = access i }
