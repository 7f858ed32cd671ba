-- What a transfer law answers when it is asked: the curve with each number taken to the nearest inside its limits.
use Rattle.terms.specs.Limits.{nearest, soil_limits, modulus_limits, unit_resistance_limits, diameter_limits, displacement_limits}
use Rattle.transfer.specs.Curve.{Curve}

abbrev pub asked : Curve → Curve
asked curve soil modulus resistance width displacement =
    curve
    (nearest soil_limits soil)
    (nearest modulus_limits modulus)
    (nearest unit_resistance_limits resistance)
    (nearest diameter_limits width)
    (nearest displacement_limits displacement)
