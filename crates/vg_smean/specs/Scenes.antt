-- What is seen of a scene.
use Rattle.vg_smean.specs.declared.values.Scene as scenes
use Rattle.vg_smean.specs.Values.{Scene}

-- the numbers, the port, the time, the state, the frame and the names
abbrev pub scene_of : scenes.Scene → Scene
scene_of scene = record {
  numbers = scene.numbers.now;
  port = scene.port;
  now = scene.time;
  state = scene.state.now;
  frame = scene.frame.now;
  names = scene.names.now;
}
