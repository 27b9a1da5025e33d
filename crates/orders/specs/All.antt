-- One name that opens the rules of a text and of an allowance, for what is computed.
use Rattle.std.specs.Prelude.{Bool, true}
use Rattle.common.specs.Texts.{digit_value, number_in}
use Rattle.orders.specs.Numbers.{number_of}
use Rattle.orders.specs.Lines.{order_of}
use Rattle.orders.specs.Places.{order_in, order_bytes}
use Rattle.orders.specs.Texts.{answer_to, taken_of, refused_line_of}
use Rattle.orders.specs.Allowances.{covers, chosen, allowance_of}

unfoldable pub orders_rules : Bool
unfolding digit_value number_in number_of order_of order_in order_bytes answer_to taken_of refused_line_of covers chosen allowance_of
orders_rules = true
