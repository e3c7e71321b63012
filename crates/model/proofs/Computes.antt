-- Everything that a computed example unfolds, under one name.
use lib.Ieee.{add, sub, mul, div, lt, le, eq, of_int, of_bits, to_bits}
use Rattle.model.specs.Numbers.{fmin, fmax, fabs}
use Rattle.model.specs.Lists.{cons_if, cons_some, filter, any, all, find, head, last, init, insert, tabulate, pad, when, maybe, filter_map, fold, sort}
use Rattle.model.specs.Bytes.{u16_at, u32_at, u64_at, f64_at}
use Rattle.model.specs.Layout.{counts_of}
use Rattle.model.specs.Table.{need, ◌then◌, check_then, records, first_bad_after, first_bad, fields_alike, all_after, all_of, every, met}
use Rattle.model.specs.Judge.{header_table, settings_table, point_table, road_table, number_table, row_table, distance_table, goal_table, counts_good, offsets_good, fields_good, source_of, start_of, entry_of, row_count, rows_before, row_road, goal_node, lists_good, rows_good, refuse, refuse_field, judged}
use Rattle.model.specs.Sheet.{settings_of, point_of, row_of, count_in, before_in, measured_point, road_of, part, goal_of, sheet_of}
use Rattle.model.specs.View.{max_valid_distance, min_distance, max_search_distance, raised, limits_of, permits, penalty, distances_to, view}
use Rattle.model.specs.Candidates.{same_bytes, is_access_road, bearing_difference, fraction, substitution_score, normalize, compute_score, candidate_of, passes, candidate, better, find_candidates, nearest, closest, closest_point}
use Rattle.model.specs.Heap.{sift_up, child, sink, pop}
use Rattle.model.specs.Search.{real_of, dominated, stale, offered, entered, relax, relax_all, came_from, trace, expanded, visit, take_step, onward, run, begun, search_within, bounded_astar}
use Rattle.model.specs.Legs.{score_of, best_score, improve, first_or_better, excellent, effective_min, effective_max, same_edge_length, fits_same_edge, same_edge_path, same_edge_scored, pairs, close, take_close, try_same_edge_solution, path_cost, fits_path, stays, terminal, whole, path_over, scored_over, leg_end, middle_max, pair_plan, middle_of, after_search, after_pair, try_pair, end_or_try, next_pair, try_pairs, else_pairs, find_best_path}
use Rattle.model.specs.Decode.{query_of, middle_search, segment_of, same_number, append, cover, extended, path_of_leg, greater, primary_edge, with_primary, after_leg, decode_line, decode_point_along_line, decode_legs, first_empty, require_close_candidate, decode_points, outcome}
use Rattle.model.specs.Ends.{grown, note, meet_road, around, ins_of, outs_of, passes_through, is_valid_node, way_on, way_back, forced_continuation, forced_predecessor, way, meets, walked, walk, snap_cap_m, at_end, at_start, extend_ends, finalize_path, part_of, offset_fraction}
use Rattle.model.specs.Call.{written, match_of, answered, has_room, untouched, decode_by, decode_sheet, after_judging, decode}
use Rattle.model.specs.Build.{le_bytes, join, whole_f64, settings_with, point, road, row, goal, header, sheet_bytes}

unfoldable pub computes : Unit {0}
unfolding add sub mul div lt le eq of_int of_bits to_bits fmin fmax fabs cons_if cons_some filter any all find head last init insert tabulate pad when maybe filter_map fold sort u16_at u32_at u64_at f64_at counts_of need ◌then◌ check_then records first_bad_after first_bad fields_alike all_after all_of every met header_table settings_table point_table road_table number_table row_table distance_table goal_table counts_good offsets_good fields_good source_of start_of entry_of row_count rows_before row_road goal_node lists_good rows_good refuse refuse_field judged settings_of point_of row_of count_in before_in measured_point road_of part goal_of sheet_of max_valid_distance min_distance max_search_distance raised limits_of permits distances_to view same_bytes is_access_road bearing_difference fraction substitution_score normalize compute_score candidate_of passes candidate better find_candidates nearest closest closest_point sift_up child sink pop penalty real_of dominated stale offered entered relax relax_all came_from trace expanded visit take_step onward run begun search_within bounded_astar score_of best_score improve first_or_better excellent effective_min effective_max same_edge_length fits_same_edge same_edge_path same_edge_scored pairs close take_close try_same_edge_solution path_cost fits_path stays terminal whole path_over scored_over leg_end middle_max pair_plan middle_of after_search after_pair try_pair end_or_try next_pair try_pairs else_pairs find_best_path query_of middle_search segment_of same_number append cover extended path_of_leg greater primary_edge with_primary after_leg decode_line decode_point_along_line decode_legs first_empty require_close_candidate decode_points outcome grown note meet_road around ins_of outs_of passes_through is_valid_node way_on way_back forced_continuation forced_predecessor way meets walked walk snap_cap_m at_end at_start extend_ends finalize_path part_of offset_fraction written match_of answered has_room untouched decode_by decode_sheet after_judging decode le_bytes join whole_f64 settings_with point road row goal header sheet_bytes
computes = tt
