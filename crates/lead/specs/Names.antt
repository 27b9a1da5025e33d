-- Document 01, 'Stop questions' and 'Phases': names for its numbers. Definitions only.
use Rattle.std.specs.Prelude.{ℕ}

-- Phases. The document gives numbers; the names say what happens in them.
abbrev pub idle : ℕ
idle = 0

-- the car's first frames, its permission, and the threshold
abbrev pub handshake : ℕ
handshake = 1

abbrev pub locking : ℕ
locking = 2

abbrev pub insulation_test : ℕ
insulation_test = 3

-- the voltage of the insulation test falls
abbrev pub test_discharge : ℕ
test_discharge = 4

abbrev pub contactor_closing : ℕ
contactor_closing = 5

abbrev pub charging : ℕ
charging = 6

abbrev pub ramp_down : ℕ
ramp_down = 7

-- the car opens its contactor, which must not be welded
abbrev pub weld_check : ℕ
weld_check = 8

-- the connector's voltage falls before it is unlocked
abbrev pub final_discharge : ℕ
final_discharge = 9

abbrev pub ended : ℕ
ended = 10

-- The numbers of the stop questions, which are the stop reasons; 0 for none.
abbrev pub no_reason : ℕ
no_reason = 0

abbrev pub emergency_button : ℕ
emergency_button = 11

abbrev pub unplugged : ℕ
unplugged = 12

abbrev pub ground_fault : ℕ
ground_fault = 13

abbrev pub permission_open : ℕ
permission_open = 14

abbrev pub bad_reading : ℕ
bad_reading = 15

abbrev pub overvoltage : ℕ
overvoltage = 16

abbrev pub overcurrent : ℕ
overcurrent = 17

abbrev pub unlocked : ℕ
unlocked = 18

abbrev pub car_silent : ℕ
car_silent = 19

abbrev pub car_fault : ℕ
car_fault = 20

abbrev pub incompatible_voltage : ℕ
incompatible_voltage = 21

abbrev pub not_in_park : ℕ
not_in_park = 22

abbrev pub not_enabled : ℕ
not_enabled = 23

abbrev pub stop_request : ℕ
stop_request = 24

abbrev pub contactor_open : ℕ
contactor_open = 25

abbrev pub stop_button : ℕ
stop_button = 26

abbrev pub low_insulation : ℕ
low_insulation = 27

abbrev pub phase_timeout : ℕ
phase_timeout = 28

abbrev pub charging_time_over : ℕ
charging_time_over = 29
