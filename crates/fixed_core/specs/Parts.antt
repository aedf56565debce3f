-- The numeral that cut parts spell.
use Rattle.fixed_core.specs.Numeral.{Numeral}
use Rattle.fixed_core.specs.declared.numeral.Parts.{Parts}

abbrev pub numeral_in : Parts → Numeral
numeral_in p =
    record {
      negative = p.negative;
      whole = p.whole.now;
      fraction = p.fraction.now;
      lowers = p.lowers;
      exponent = p.exponent.now;
    }
