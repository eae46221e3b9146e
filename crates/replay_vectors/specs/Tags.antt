-- What a case is of, by number.
use Rattle.std.specs.Prelude.{ℕ}
use Rattle.replay_vectors.specs.declared.tag.Tag.{Tag}
use Rattle.replay_vectors.specs.declared.tag.Tag.TheVariants.{Points, PointsState, Layers, LayersState, Items, Instances, Seeds, Fitness}
use Rattle.replay_vectors.specs.declared.tag.Tag.TheVariants.{Overlaps, Unplaced, Check, Load, Measures, Root, Spot}

-- the number that a sample has for a tag
abbrev pub number_of : Tag → ℕ
number_of Points = 1
number_of PointsState = 2
number_of Layers = 3
number_of LayersState = 4
number_of Items = 5
number_of Instances = 6
number_of Seeds = 7
number_of Fitness = 8
number_of Overlaps = 9
number_of Unplaced = 10
number_of Check = 11
number_of Load = 12
number_of Measures = 13
number_of Root = 14
number_of Spot = 16
