use mathlib.Core.Path.{refl}
use native.Mathlib.Omega.{arith}
use Rattle.model.specs.Sheet.{settings_of, sheet_of}
use Rattle.model.proofs.Sections.{u8_section, u16_section}
use Rattle.sheet.proofs.Sheet.settings.Goals as goal

pub returns : goal.returns
unfolding settings_of sheet_of
returns c =
    let s = c.args.self.now.bytes.now in
    let last = c in
    let middle = c in
    let early = c in
    rw (u8_section s 56 112 104 160 (omega arith) refl, u8_section s 56 112 105 161 (omega arith) refl, u16_section s 56 112 106 162 (omega arith) refl, c.u16_at-max_candidates.ensures, c.setting-max_snap_extension_m.ensures, c.setting-access_road_cost_penalty.ensures, c.setting-slip_road_cost_penalty.ensures, c.setting-max_search_distance_factor.ensures, c.setting-absolute_length_tolerance.ensures, c.setting-length_tolerance.ensures, c.setting-fow_weight.ensures, c.setting-frc_weight.ensures, c.setting-bearing_weight.ensures, c.setting-distance_weight.ensures, c.setting-max_candidate_distance_m.ensures, c.setting-max_bearing_diff.ensures, c.setting-search_radius_m.ensures)
