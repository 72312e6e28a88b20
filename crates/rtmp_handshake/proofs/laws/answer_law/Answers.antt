use Rattle.rtmp_handshake.proofs.Whole.{answer_alone}
use Rattle.rtmp_handshake.proofs.Places.{answer_length, answer_version, answer_zeros, answer_random, answer_time, answer_when_read, answer_echo}
use Rattle.rtmp_handshake.proofs.laws.answer_law.Goals as goal

pub returns-clause-length : goal.returns-clause-length
returns-clause-length c = answer_length

pub returns-clause-alone : goal.returns-clause-alone
returns-clause-alone c = answer_alone

pub returns-clause-random : goal.returns-clause-random
returns-clause-random c = answer_random

pub returns-clause-time : goal.returns-clause-time
returns-clause-time c = answer_time

pub returns-clause-echo : goal.returns-clause-echo
returns-clause-echo c = answer_echo

pub returns-clause-version : goal.returns-clause-version
returns-clause-version c = answer_version

pub returns-clause-zeros : goal.returns-clause-zeros
returns-clause-zeros c = answer_zeros

pub returns-clause-when_read : goal.returns-clause-when_read
returns-clause-when_read c = answer_when_read
