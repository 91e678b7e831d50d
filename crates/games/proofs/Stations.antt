-- The starred stations, those with parked states and those whose cells overlap come out, by computation.
-- Assumes nothing.
use mathlib.Core.Path.{refl}
use Rattle.sets.specs.Mask.{union_over}
use Rattle.sets.specs.Bounded.{all, any, first, select, gather, count}
use Rattle.sets.specs.Family.{same, is_maximal, maximal, listed, cut, cuts, join, meet}
use Rattle.games.specs.Game.{has_successor, enabled}
use Rattle.games.specs.Places.{parked_words}
use Rattle.games.specs.Step.{safe, enabled_at, post, after, meets, lowest, step, good, antichain, fixed, settling}
use Rattle.games.specs.Verdict.{start_sets, start_set, starts_in, settled, cells, lost_round, verdict}
use Rattle.games.specs.Automaton.{state_count, tightest_at, holding, chosen, card}
use Rattle.games.specs.Words.{game, cell_words, card_words}
use Rattle.games.specs.Stations.{Every, none, row, stations, parked_stations, overlapping_stations, comes_out, same_list, same_verdict}

-- a refusal names the row that doesn't come out
pub every_station : Every stations
unfolding stations comes_out same_list same_verdict union_over all any first select gather count same is_maximal maximal listed cut cuts join meet has_successor enabled parked_words safe enabled_at post after meets lowest step good antichain fixed settling start_sets start_set starts_in settled cells lost_round verdict state_count tightest_at holding chosen card game cell_words card_words
every_station = row refl (row refl (row refl (row refl (row refl (row refl (row refl (row refl (row refl (row refl (row refl (row refl (row refl (row refl (row refl (row refl (row refl (none)))))))))))))))))

pub every_parked_station : Every parked_stations
unfolding parked_stations comes_out same_list same_verdict union_over all any first select gather count same is_maximal maximal listed cut cuts join meet has_successor enabled parked_words safe enabled_at post after meets lowest step good antichain fixed settling start_sets start_set starts_in settled cells lost_round verdict state_count tightest_at holding chosen card game cell_words card_words
every_parked_station = row refl (row refl (row refl (row refl (row refl (row refl (row refl (row refl (row refl (row refl (row refl (row refl none)))))))))))

pub every_overlapping_station : Every overlapping_stations
unfolding overlapping_stations comes_out same_list same_verdict union_over all any first select gather count same is_maximal maximal listed cut cuts join meet has_successor enabled parked_words safe enabled_at post after meets lowest step good antichain fixed settling start_sets start_set starts_in settled cells lost_round verdict state_count tightest_at holding chosen card game cell_words card_words
every_overlapping_station = row refl (row refl (row refl (row refl none)))
